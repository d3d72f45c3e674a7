-- The addresses that sockets are bound to.
use Rattle.std.specs.Prelude.{◌≡◌, ◌<◌, ◌+◌, ◌*◌, ◌⊎◌, ℕ, List, [], ◌∷◌, ◌++◌, ⊤, length, Some, slice_get}
use Rattle.types.specs.declared.addr.Source.{Source}
use Rattle.types.specs.declared.dest.Dest.{Dest}
use Rattle.types.specs.declared.dest.Proto.{Proto}
use Rattle.types.specs.declared.dest.Proto.TheVariants.{V4, V6}
use Rattle.types.specs.declared.dest.Dest.TheVariants.{Broadcast, Unicast, Peer}
use Rattle.settings.specs.declared.settings.RelayConfig.{RelayConfig}
use Rattle.settings.specs.Settings.{Settings}
use Rattle.config.specs.CircuitPart.{CircuitPart}
use Rattle.config.specs.Topology.{Topology}
use Rattle.udp.specs.History.{Entry, Refused, with_entry}
use Rattle.udp.specs.Socket.{SocketValue}
use Rattle.udp.specs.declared.history.Role.{Role}
use Rattle.udp.specs.declared.history.Role.TheVariants as role
use Rattle.sockets.specs.declared.sockets.CircuitSockets.{CircuitSockets}
use Rattle.sockets.specs.declared.sockets.Sockets.{Sockets}
use Rattle.sockets.specs.declared.sockets.SocketFault.{SocketFault}
use Rattle.sockets.specs.declared.sockets.SocketFault.TheVariants as socket

-- this port of 127.0.0.1
abbrev pub local_port : ℕ → Source
local_port port = record { addr = record { 0 = 127 ∷ 0 ∷ 0 ∷ 1 ∷ [] }; port = port }

-- Where a circuit listens for a protocol, and where frames towards its clients go. Each circuit has four ports, the first circuit's
-- begin at `port`.
abbrev pub listen_port : ℕ → ℕ → Proto → Source
listen_port port c V4 = local_port (port + 4 * c)
listen_port port c V6 = local_port (port + 4 * c + 1)

abbrev pub client_port : ℕ → ℕ → Proto → Source
client_port port c V4 = local_port (port + 4 * c + 2)
client_port port c V6 = local_port (port + 4 * c + 3)

-- one of a circuit's two sockets
abbrev pub IsCircuitSocket : ℕ → ℕ → Source → Type 0
IsCircuitSocket count port at = (c : ℕ) × (proto : Proto) × (c < count) × (at ≡ listen_port port c proto)

abbrev pub IsRelaySocket : List RelayConfig → Source → Type 0
IsRelaySocket relays at = (r : ℕ) × (relay : RelayConfig) × (slice_get relays r ≡ Some relay) × (at ≡ relay.source)

-- a circuit's, the server's for DHCPv4 and DHCPv6, or a relay's
abbrev pub IsSocket : Settings → ℕ → Source → Type 0
IsSocket config port at = IsCircuitSocket (length config.circuits) port at ⊎ (at ≡ config.server.listen4) ⊎ (at ≡ config.server.listen6) ⊎ IsRelaySocket config.relays at

-- all that happened since then is that the system refused to bind a socket to this address
abbrev pub WasRefused : List Entry → List Entry → Source → Type 0
WasRefused old new at = (socket : Role) × (new ≡ with_entry (Refused socket at) old)

-- Where an address is refused, it is one of these.
abbrev pub Refuses : (Source → Type 0) → SocketFault → Type 0
Refuses Bound socket.Memory = ⊤
Refuses Bound (socket.Bind at) = Bound at

-- the protocol of a frame that goes to a client
abbrev pub proto_of : Dest → Proto
proto_of Broadcast = V4
proto_of (Unicast chaddr yiaddr) = V4
proto_of (Peer address) = V6

-- what goes to a client: before a DHCPv4 frame a byte for broadcast or unicast, before a DHCPv6 frame the peer's address
abbrev pub front_of : Dest → List ℕ
front_of Broadcast = 0 ∷ []
front_of (Unicast chaddr yiaddr) = 1 ∷ []
front_of (Peer address) = address.0

abbrev pub framed : Dest → List ℕ → List ℕ
framed dest frame = front_of dest ++ frame

-- ---- what each socket is for, where it is bound, and which history says what happens at it

pub record IsBound (socket : SocketValue) (its_role : Role) (its_address : Source) (its_history : ℕ) : Type 0 where
  pub role : socket.role ≡ its_role
  pub at : socket.at ≡ its_address
  pub history : socket.history ≡ its_history

-- a circuit's two sockets, and the socket of its relay
pub record AreCircuitSockets (relays : List Source) (port history c : ℕ) (part : CircuitPart) (sockets : CircuitSockets) : Type 0 where
  pub socket4 : IsBound sockets.socket4 (role.Circuit c V4) (listen_port port c V4) history
  pub socket6 : IsBound sockets.socket6 (role.Circuit c V6) (listen_port port c V6) history
  pub relay : slice_get relays sockets.relay ≡ Some part.relay

abbrev pub AreOwnSockets : List Source → ℕ → ℕ → List CircuitPart → List CircuitSockets → Type 0
AreOwnSockets relays port history parts circuits =
    (c : ℕ) (part : CircuitPart) (sockets : CircuitSockets) → slice_get parts c ≡ Some part → slice_get circuits c ≡ Some sockets → AreCircuitSockets relays port history c part sockets

abbrev pub AreRelaySockets : List Source → ℕ → List SocketValue → Type 0
AreRelaySockets relays history sockets = (r : ℕ) (at : Source) (socket : SocketValue) → slice_get relays r ≡ Some at → slice_get sockets r ≡ Some socket → IsBound socket (role.Relay r) at history

-- Each socket has its role, its address and this history.
pub record AreBound (topology : Topology) (port history : ℕ) (sockets : Sockets) : Type 0 where
  pub circuits : AreOwnSockets topology.relays port history topology.circuits sockets.circuits.items
  pub listen4 : IsBound sockets.listen4 (role.Server V4) topology.listen4 history
  pub listen6 : IsBound sockets.listen6 (role.Server V6) topology.listen6 history
  pub relays : AreRelaySockets topology.relays history sockets.relays.items
