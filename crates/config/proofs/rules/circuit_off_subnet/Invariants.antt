use Rattle.std.proofs.Common.{ℕ, ◌<◌, get_or}
use Rattle.config.specs.Rules.{IsOnSubnet}
use Rattle.settings.specs.declared.settings.CircuitConfig.{CircuitConfig}
use Rattle.config.proofs.rules.circuit_off_subnet.Given as goal

abbrev pub invariant-loop-index : goal.invariant-loop-index
invariant-loop-index l = (k : ℕ) → k < l.index → (d : CircuitConfig) → IsOnSubnet (get_or l.circuits k d)
