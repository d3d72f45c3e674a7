use Rattle.std.proofs.Common.{rules}
use Rattle.circuit_server.proofs.circuit_server.CircuitServer.turn_off.Goals as goal

pub returns-clause-state : goal.returns-clause-state
returns-clause-state c = search rules
