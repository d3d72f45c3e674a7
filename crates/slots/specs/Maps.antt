-- The maps that a circuit's book is made of: from a client to its lease, and from an address that nobody is
-- given to the moment until which that lasts. Moments are in seconds.
use Rattle.std.specs.Prelude.{ℕ, ◌+◌, Bool, false, ◌&&◌, ◌==◌, nat_lt, nat_le, Option, option_map}
use Rattle.std.specs.declared.cmp.Ordering.{Ordering}
use Rattle.std.specs.List.{list_any}
use Rattle.std.specs.Ordering.{nat_cmp}
use Rattle.std.specs.FinMap.{FinMap, get, retain_keys, values}
use Rattle.std.specs.Option.{option_map_or}

-- An address, as a number, and the moment until which it is held.
pub record Lease : Type 0 where
  pub address : ℕ
  pub until : ℕ

-- from a client, by its key
abbrev pub Clients : {K : Type 0} → (K → K → Ordering) → Type 0
Clients cmpk = FinMap cmpk Lease

-- from an address that a client declined, until when it is given to nobody
abbrev pub Bars : Type 0
Bars = FinMap nat_cmp ℕ

-- What is held until some moment is live while the clock has not come to it.
abbrev pub is_live : ℕ → ℕ → Bool
is_live clock until = nat_lt clock until

-- the clients whose address is still held
abbrev pub live_clients : {K : Type 0} {cmpk : K → K → Ordering} → ℕ → Clients cmpk → Clients cmpk
live_clients clock m = retain_keys m (λ key. option_map_or (λ lease. is_live clock lease.until) (get m key) false)

abbrev pub live_bars : ℕ → Bars → Bars
live_bars clock m = retain_keys m (λ address. option_map_or (is_live clock) (get m address) false)

-- whether some client of the map has this address
abbrev pub names : {K : Type 0} {cmpk : K → K → Ordering} → ℕ → Clients cmpk → Bool
names address m = list_any (λ lease. lease.address == address) (values m)

abbrev pub address_of : Option Lease → Option ℕ
address_of found = option_map (λ (lease : Lease). lease.address) found

-- whether an address is one of `count` from the first on
abbrev pub in_range : ℕ → ℕ → ℕ → Bool
in_range first count address = nat_le first address && nat_lt address (first + count)
