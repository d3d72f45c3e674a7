use Rattle.std.proofs.Common.{◌≡◌, map, take}
use Rattle.config.specs.Union.{has_circuit}
use Rattle.config.proofs.members.members_of.Given as goal

abbrev pub invariant-loop-circuit : goal.invariant-loop-circuit
invariant-loop-circuit l = map (λ row. row.items) l.rows.items ≡ map (λ c. map (has_circuit c.id) l.configs) (take l.circuit-index l.circuits)
