use Rattle.std.proofs.Common.{rules}
use Rattle.circuit_server.proofs.prepared.save_alone.Goals as goal

pub returns-in_default-clause-nothing : goal.returns-in_default-clause-nothing
returns-in_default-clause-nothing c = search rules

pub returns-clause-saved : goal.returns-clause-saved
returns-clause-saved c = search rules
