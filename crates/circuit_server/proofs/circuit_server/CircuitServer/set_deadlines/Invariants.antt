use Rattle.std.proofs.Common.{◌*◌}
use Rattle.circuit_server.proofs.DeadlineLemmas.{AreSet}
use Rattle.circuit_server.proofs.circuit_server.CircuitServer.set_deadlines.Given as goal

abbrev pub invariant-slots : goal.invariant-slots
invariant-slots l = AreSet (32 * l.fn.circuit) l.slot l.self l.fn.table l.table
