use Rattle.std.proofs.Common.{◌≡◌, ℕ, ◌<◌, get_or}
use Rattle.std.specs.Prelude.{All}
use Rattle.settings.specs.declared.settings.CircuitConfig.{CircuitConfig}
use Rattle.config.proofs.differences.circuit.Given as goal

abbrev pub invariant-loop-index : goal.invariant-loop-index
invariant-loop-index l =
    (k : ℕ) (d : CircuitConfig) → k < l.index → All (λ c. c.id ≡ (get_or l.circuits k d).id → c ≡ get_or l.circuits k d) l.one.circuits
