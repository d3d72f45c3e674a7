-- The book of one circuit's DHCPv6 leases (RFC 8415, section 4.2): who has which address, and until when.
-- Moments are in seconds.
use Rattle.std.specs.Prelude.{ℕ, Bool, not, ◌&&◌, ◌||◌, Option, None, if◌then◌else◌, false}
use Rattle.std.specs.List.{find, range_with_len}
use Rattle.std.specs.FinMap.{empty, get, contains_key}
use Rattle.std.specs.Option.{option_or, option_map_or}
use Rattle.slots.specs.Key.{key6_cmp}
use Rattle.slots.specs.Maps.{Clients, Bars, live_clients, live_bars, names, in_range, address_of}
use Rattle.types.specs.Addr.{number6}
use Rattle.types.specs.Key6.{Key6Value}
use Rattle.types.specs.Pool6.{Pool6Value}

pub record Book6 : Type 0 where
  -- the leases that were granted, from a client by its DUID and IAID
  pub bindings : Clients key6_cmp
  -- from an address that a client declined, until when it is given to nobody
  pub bars : Bars

abbrev pub empty_book : Book6
empty_book = record { bindings = empty; bars = empty }

-- The book at a clock: what has expired is left out.
unfoldable pub book6_at : ℕ → Book6 → Book6
book6_at clock b = record { bindings = live_clients clock b.bindings; bars = live_bars clock b.bars }

abbrev pub in_pool : Pool6Value → ℕ → Bool
in_pool pool address = in_range (number6 pool.first) pool.count address

-- An address is free where it is in the pool and no binding or bar names it.
abbrev pub is_free : Pool6Value → Book6 → ℕ → Bool
is_free pool b address = in_pool pool address && not (names address b.bindings || contains_key b.bars address)

abbrev pub lowest_free : Pool6Value → Book6 → Option ℕ
lowest_free pool b = find (is_free pool b) (range_with_len (number6 pool.first) pool.count)

abbrev pub where_free : Pool6Value → Book6 → Option ℕ → Option ℕ
where_free pool b wanted = if option_map_or (is_free pool b) wanted false then wanted else None

-- The address for a client: its binding, the first one that it lists where that is free, the lowest free
-- one (RFC 8415, sections 13.1 and 18.3.1).
abbrev pub pick : Pool6Value → Book6 → Key6Value → Option ℕ → Option ℕ
pick pool b client wanted = option_or (address_of (get b.bindings client)) (option_or (where_free pool b wanted) (lowest_free pool b))
