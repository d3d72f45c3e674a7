-- What an error of a socket becomes.
use Rattle.types.specs.declared.addr.Source.{Source}
use Rattle.sockets.specs.declared.sockets.SocketFault.{SocketFault}
use Rattle.sockets.specs.declared.sockets.SocketFault.TheVariants as socket
use Rattle.sockets.specs.Sockets.{Refuses}
use Rattle.access.specs.Access.{RefusesSocket, socket_fault}

-- an address is refused only where a socket can't be bound to it
pub socket_refuses : (Bound Socket : Source → Type 0) (why : SocketFault) → ((at : Source) → Bound at → Socket at) → Refuses Bound why → RefusesSocket Socket (socket_fault why)
socket_refuses Bound Socket socket.Memory so refused = tt
socket_refuses Bound Socket (socket.Bind at) so refused = so at refused
