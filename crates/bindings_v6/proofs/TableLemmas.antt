-- A slot and its address, in a decision.
use Rattle.std.proofs.Common.{◌≡◌, ◌-◌, ap, ◌∙◌, arith}
use Rattle.types.specs.Addr.{number6}
use Rattle.types.specs.Pool6.{Pool6Value}
use Rattle.bindings_v6.specs.declared.case6.SlotAddress.{SlotAddress}
use Rattle.bindings_v6.specs.Lookup6.{IsAt}

pub slot_of : (pool : Pool6Value) (found : SlotAddress) → IsAt pool found → number6 found.address - number6 pool.first ≡ found.slot
slot_of pool found at = ap (λ n. n - number6 pool.first) at.number ∙ omega arith
