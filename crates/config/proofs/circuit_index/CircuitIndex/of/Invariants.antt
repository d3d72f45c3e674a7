use Rattle.std.proofs.Common.{◌≡◌, map, take}
use Rattle.config.proofs.circuit_index.CircuitIndex.of.Given as goal

abbrev pub invariant-circuits : goal.invariant-circuits
invariant-circuits l = l.ids.keys ≡ map (λ circuit. circuit.id) (take l.circuit-index l.circuits)
