use Rattle.std.proofs.Common.{◌≡◌, ℕ, ◌+◌, ◌/◌, ◌^◌, ◌<◌}
use Rattle.types.specs.Addr.{number6}
use Rattle.config.proofs.subnets.is_on_link6.Given as goal

abbrev pub invariant-loop-slot : goal.invariant-loop-slot
invariant-loop-slot l =
    (k : ℕ) → k < l.slot → (number6 l.circuit.first6 + k) / 2 ^ 64 ≡ number6 l.circuit.link6 / 2 ^ 64
