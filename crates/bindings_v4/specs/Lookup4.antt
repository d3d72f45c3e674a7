-- What the code looked up, and its decisions. Only proofs need these.
use Rattle.std.specs.Prelude.{◌≡◌, ℕ, ◌+◌, Option, option_map, IfSome}
use Rattle.types.specs.Addr.{number4, addr4}
use Rattle.types.specs.Pool4.{PoolValue}
use Rattle.exchange.specs.declared.request4.Reply4.{Reply4}
use Rattle.bindings_v4.specs.declared.decision4.Decision4.{Decision4}
use Rattle.bindings_v4.specs.declared.case4.Case4.{Case4}
use Rattle.bindings_v4.specs.declared.table4.Lookup4.{Lookup4}
use Rattle.bindings_v4.specs.declared.case4.SlotAddress.{SlotAddress}
use Rattle.bindings_v4.specs.Decision4.{decision_of}
use Rattle.slots.specs.Row.{Row}
use Rattle.bindings_v4.specs.Table4.{Lookup}

-- a row as a decision, for the client of a case
abbrev pub decision_in : Case4 → Row Reply4 → Decision4
decision_in case row = decision_of (number4 case.pool.first) case.clock case.client.now row

-- a slot with its address
pub record IsAt (pool : PoolValue) (found : SlotAddress) : Type 0 where
  pub number : number4 found.address ≡ number4 pool.first + found.slot
  pub address : addr4 (number4 found.address) ≡ found.address

-- what the code looked up, as numbers
abbrev pub number_of : Option SlotAddress → Option ℕ
number_of o = option_map (λ found. number4 found.address) o

abbrev pub lookup_of : Lookup4 → Lookup
lookup_of f = record { binding = number_of f.binding; offer = number_of f.offer; pick = number_of f.pick }

pub record IsLookup (pool : PoolValue) (f : Lookup4) : Type 0 where
  pub binding : IfSome f.binding (λ found. IsAt pool found)
  pub offer : IfSome f.offer (λ found. IsAt pool found)
  pub pick : IfSome f.pick (λ found. IsAt pool found)
