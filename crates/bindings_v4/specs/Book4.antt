-- The book of one circuit's DHCPv4 leases (RFC 2131, section 3.1): who has which address, and until when.
-- Moments are in seconds.
use Rattle.std.specs.Prelude.{ℕ, Bool, not, ◌&&◌, ◌||◌, List, Option, None, if◌then◌else◌, false}
use Rattle.std.specs.List.{find, range_with_len}
use Rattle.std.specs.FinMap.{empty, get, contains_key}
use Rattle.std.specs.Option.{option_or, option_map_or}
use Rattle.slots.specs.Key.{key4_cmp}
use Rattle.slots.specs.Maps.{Clients, Bars, live_clients, live_bars, names, in_range, address_of}
use Rattle.types.specs.Addr.{number4}
use Rattle.types.specs.Pool4.{PoolValue}

pub record Book4 : Type 0 where
  -- the leases that were granted, from a client by its key's bytes
  pub bindings : Clients key4_cmp
  -- what is offered and not yet asked for
  pub offers : Clients key4_cmp
  -- from an address that a client declined, until when it is given to nobody
  pub bars : Bars

abbrev pub empty_book : Book4
empty_book = record { bindings = empty; offers = empty; bars = empty }

-- The book at a clock: what has expired is left out.
unfoldable pub book4_at : ℕ → Book4 → Book4
book4_at clock b =
    record { bindings = live_clients clock b.bindings; offers = live_clients clock b.offers; bars = live_bars clock b.bars }

abbrev pub in_pool : PoolValue → ℕ → Bool
in_pool pool address = in_range (number4 pool.first) pool.count address

-- An address is free where it is in the pool and no binding, offer or bar names it.
abbrev pub is_free : PoolValue → Book4 → ℕ → Bool
is_free pool b address =
    in_pool pool address && not (names address b.bindings || names address b.offers || contains_key b.bars address)

abbrev pub lowest_free : PoolValue → Book4 → Option ℕ
lowest_free pool b = find (is_free pool b) (range_with_len (number4 pool.first) pool.count)

abbrev pub where_free : PoolValue → Book4 → Option ℕ → Option ℕ
where_free pool b wanted = if option_map_or (is_free pool b) wanted false then wanted else None

-- The address for a client: its binding, its offer, the one that it asks for where that is free, the
-- lowest free one (RFC 2131, section 4.3.1).
abbrev pub pick : PoolValue → Book4 → List ℕ → Option ℕ → Option ℕ
pick pool b client wanted =
    option_or (address_of (get b.bindings client)) (option_or (address_of (get b.offers client)) (option_or (where_free pool b wanted) (lowest_free pool b)))
