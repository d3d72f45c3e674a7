use Rattle.std.proofs.Common.{ap, ◌∙◌}
use Rattle.udp.specs.Socket.{SocketValue}
use Rattle.udp.proofs.datagram_socket.DatagramSocket.take_and_tell.Goals as goal

pub returns-then-self-clause-others : goal.returns-then-self-clause-others
returns-then-self-clause-others c other apart =
    c.found_empty.ensures c.self.inside.role c.self.invariant other (λ same. apart (same ∙ ap (λ (socket : SocketValue). socket.role) c.self.view_is))
