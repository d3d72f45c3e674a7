use Rattle.std.proofs.Common.{rules}
use Rattle.udp.proofs.datagram_socket.source_of.Goals as goal

pub returns-in-V4-clause-some : goal.returns-in-V4-clause-some
returns-in-V4-clause-some c = search rules
