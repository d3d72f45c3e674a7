use Rattle.std.proofs.Common.{rules}
use Rattle.udp.proofs.datagram_socket.DatagramSocket.is_idle_with.Goals as goal

pub returns-then-are_idle-clause-idle : goal.returns-then-are_idle-clause-idle
returns-then-are_idle-clause-idle c = search rules
