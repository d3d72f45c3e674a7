-- What the code looked up, and its decisions. Only proofs need these.
use Rattle.std.specs.Prelude.{◌≡◌, ℕ, ◌+◌, Option, option_map, IfSome}
use Rattle.types.specs.Addr.{number6, addr6}
use Rattle.types.specs.Pool6.{Pool6Value}
use Rattle.exchange.specs.declared.request6.Reply6.{Reply6}
use Rattle.bindings_v6.specs.declared.decision6.Decision6.{Decision6}
use Rattle.bindings_v6.specs.declared.case6.Case6.{Case6}
use Rattle.bindings_v6.specs.declared.table6.Lookup6.{Lookup6}
use Rattle.bindings_v6.specs.declared.case6.SlotAddress.{SlotAddress}
use Rattle.bindings_v6.specs.Decision6.{decision_of}
use Rattle.slots.specs.Row.{Row}
use Rattle.bindings_v6.specs.Table6.{Lookup}

-- a row as a decision, for the client of a case
abbrev pub decision_in : Case6 → Row Reply6 → Decision6
decision_in case row = decision_of (number6 case.pool.first) case.clock case.client row

-- a slot with its address
pub record IsAt (pool : Pool6Value) (found : SlotAddress) : Type 0 where
  pub number : number6 found.address ≡ number6 pool.first + found.slot
  pub address : addr6 (number6 found.address) ≡ found.address

-- what the code looked up, as numbers
abbrev pub number_of : Option SlotAddress → Option ℕ
number_of o = option_map (λ found. number6 found.address) o

abbrev pub lookup_of : Lookup6 → Lookup
lookup_of f = record { binding = number_of f.binding; pick = number_of f.pick }

pub record IsLookup (pool : Pool6Value) (f : Lookup6) : Type 0 where
  pub binding : IfSome f.binding (λ found. IsAt pool found)
  pub pick : IfSome f.pick (λ found. IsAt pool found)
