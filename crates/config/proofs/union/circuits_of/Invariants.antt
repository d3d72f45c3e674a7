use Rattle.std.proofs.Common.{◌≡◌, map, take}
use Rattle.std.specs.Prelude.{flat_map}
use Rattle.config.specs.Union.{each_once}
use Rattle.config.proofs.union.circuits_of.Given as goal

abbrev pub invariant-loop-plan : goal.invariant-loop-plan
invariant-loop-plan l = record {
  index : l.index ≡ map (λ c. c.id) l.circuits.items;
  once : l.circuits.items ≡ each_once (flat_map (λ config. config.circuits) (take l.plan l.configs));
}
