-- What waits at the sockets of the server and of the relays, by what was sent to them and what was taken from them.
use Rattle.std.specs.Prelude.{◌≡◌, ◌<◌, ℕ, ◌==◌, ⊤, Bool, true, false, if◌then◌else◌, List, [], ◌∷◌, ◌++◌, drop, length, Option, Some, None, slice_get}
use Rattle.types.specs.Addr.{same_source}
use Rattle.types.specs.declared.addr.Source.{Source}
use Rattle.types.specs.declared.dest.Proto.{Proto}
use Rattle.settings.specs.Settings.{Settings}
use Rattle.config.specs.Rules.{IsSound}
use Rattle.config.specs.Topology.{Topology, is_relay, is_server, listen, topology_of}
use Rattle.sockets.specs.Sockets.{client_port}
use Rattle.udp.specs.History.{Entry, Empty, Failed, Sent, Took}
use Rattle.udp.specs.declared.history.Role.{Role}
use Rattle.udp.specs.declared.history.Role.TheVariants as role
use Rattle.access.specs.Access.{AccessValue}
use Rattle.access_promises.specs.Attempts.{same_proto}

-- where relays and server receive what they send each other; a circuit's socket does not
abbrev pub address_of : Topology → Role → Option Source
address_of topology (role.Server proto) = Some (listen topology proto)
address_of topology (role.Relay r) = slice_get topology.relays r
address_of topology (role.Circuit c proto) = None

abbrev pub is_at : Option Source → Source → Bool
is_at None to = false
is_at (Some at) to = same_source at to

abbrev pub is_socket : Role → Role → Bool
is_socket (role.Server one) (role.Server other) = same_proto one other
is_socket (role.Relay one) (role.Relay other) = one == other
is_socket one other = false

-- a datagram between relays and server, and the address that it was sent from
pub record Underway : Type 0 where
  pub from : Option Source
  pub bytes : List ℕ

-- What waits at a socket after some entries, the oldest first, if so much waited before.
abbrev pub waiting : Topology → Role → List Underway → List Entry → List Underway
waiting topology socket queue [] = queue
waiting topology socket queue (Sent from to bytes true ∷ entries) =
    waiting topology socket (if is_at (address_of topology socket) to then queue ++ record { from = address_of topology from; bytes = bytes } ∷ [] else queue) entries
waiting topology socket queue (Took at from bytes ∷ entries) = waiting topology socket (if is_socket at socket then drop 1 queue else queue) entries
waiting topology socket queue (entry ∷ entries) = waiting topology socket queue entries

abbrev pub first : List Underway → Option Underway
first [] = None
first (one ∷ more) = Some one

-- The system gave the oldest datagram that waited.
abbrev pub IsFirst : Topology → List Entry → Role → Source → List ℕ → Type 0
IsFirst topology before socket from bytes = first (waiting topology socket [] before) ≡ Some (record { from = Some from; bytes = bytes })

-- What the system says is right: it gives the oldest datagram that waits, says that none waits only if none does, and accepts what is
-- sent to a relay or the server.
abbrev pub IsHonest : Topology → List Entry → Entry → Type 0
IsHonest topology before (Took (role.Server proto) from bytes) = IsFirst topology before (role.Server proto) from bytes
IsHonest topology before (Took (role.Relay r) from bytes) = IsFirst topology before (role.Relay r) from bytes
IsHonest topology before (Empty (role.Server proto)) = waiting topology (role.Server proto) [] before ≡ []
IsHonest topology before (Empty (role.Relay r)) = waiting topology (role.Relay r) [] before ≡ []
IsHonest topology before (Failed (role.Server proto)) = ⊥
IsHonest topology before (Failed (role.Relay r)) = ⊥
IsHonest topology before (Sent from to bytes false) = (is_relay topology to ≡ false) × (is_server topology to ≡ false)
IsHonest topology before entry = ⊤

-- Between relays and server the system gives what was sent, in order, nothing else, and loses nothing.
abbrev pub LosesNothing : Topology → List Entry → List Entry → Type 0
LosesNothing topology before [] = ⊤
LosesNothing topology before (entry ∷ entries) = IsHonest topology before entry × LosesNothing topology (before ++ entry ∷ []) entries

-- ---- the service

-- Relay and server of a configuration, whose batches have sixteen places, and none of whose addresses is a port of clients.
pub record IsService (settings : Settings) (access : AccessValue) : Type 0 where
  pub sound : IsSound settings
  pub topology : access.topology ≡ topology_of settings
  pub batch : access.batch ≡ 16
  pub apart : (c : ℕ) (proto : Proto) → c < length access.topology.circuits
      → (is_relay access.topology (client_port access.port c proto) ≡ false) × (is_server access.topology (client_port access.port c proto) ≡ false)
