-- A slot and its address, in a decision.
use Rattle.std.proofs.Common.{◌≡◌, ◌-◌, ap, ◌∙◌, arith}
use Rattle.types.specs.Addr.{number4}
use Rattle.types.specs.Pool4.{PoolValue}
use Rattle.bindings_v4.specs.declared.case4.SlotAddress.{SlotAddress}
use Rattle.bindings_v4.specs.Lookup4.{IsAt}

pub slot_of : (pool : PoolValue) (found : SlotAddress) → IsAt pool found → number4 found.address - number4 pool.first ≡ found.slot
slot_of pool found at = ap (λ n. n - number4 pool.first) at.number ∙ omega arith
