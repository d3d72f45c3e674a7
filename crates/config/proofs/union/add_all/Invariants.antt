use Rattle.std.proofs.Common.{◌≡◌, List, ◌++◌, map, take}
use Rattle.settings.specs.declared.settings.CircuitConfig.{CircuitConfig}
use Rattle.config.specs.Union.{each_once}
use Rattle.config.proofs.union.add_all.Given as goal

abbrev pub invariant-loop-circuit : goal.invariant-loop-circuit
invariant-loop-circuit l = record {
  index : l.index ≡ map (λ c. c.id) l.circuits.items;
  once : (before : List CircuitConfig) → l.initial.circuits.items ≡ each_once before → l.circuits.items ≡ each_once (before ++ take l.circuit-index l.more);
}
