use Rattle.std.proofs.Common.{◌≡◌, map, take}
use Rattle.config.specs.Union.{has_circuit}
use Rattle.config.proofs.members.row_of.Given as goal

abbrev pub invariant-loop-config : goal.invariant-loop-config
invariant-loop-config l = l.row.items ≡ map (has_circuit l.id) (take l.config-index l.configs)
