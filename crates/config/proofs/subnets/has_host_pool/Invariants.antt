use Rattle.std.proofs.Common.{ℕ, ◌+◌, ◌<◌}
use Rattle.types.specs.Addr.{number4}
use Rattle.config.specs.Rules.{IsHost}
use Rattle.config.proofs.subnets.has_host_pool.Given as goal

abbrev pub invariant-loop-slot : goal.invariant-loop-slot
invariant-loop-slot l =
    (k : ℕ) → k < l.slot → IsHost l.circuit.prefix4 (number4 l.circuit.gateway4) (number4 l.circuit.first4 + k)
