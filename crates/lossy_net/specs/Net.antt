-- What the network keeps between relay and server: for each circuit and direction the last datagrams.
use Rattle.std.specs.Prelude.{ℕ, List, [], Option, Some, None, slice_get}
use Rattle.lossy_net.specs.declared.dir.Dir.{Dir}
use Rattle.lossy_net.specs.declared.dir.Dir.TheVariants.{Up, Down}
use Rattle.types.specs.declared.dest.Proto.{Proto}

pub record Datagram : Type 0 where
  pub proto : Proto
  pub bytes : List ℕ

-- one circuit's datagrams, the newest first: towards the server, and towards the relay
pub record Queues : Type 0 where
  pub up : List Datagram
  pub down : List Datagram

-- the queues of each circuit, by its index, and how many datagrams a list may have
pub record NetValue : Type 0 where
  pub quota : ℕ
  pub circuits : List Queues

abbrev pub opposite : Dir → Dir
opposite Up = Down
opposite Down = Up

abbrev pub queue_of : Dir → Option Queues → List Datagram
queue_of dir None = []
queue_of Up (Some queues) = queues.up
queue_of Down (Some queues) = queues.down

-- what is kept of a circuit in one direction, the newest first; nothing of a circuit that is not there
abbrev pub datagrams : NetValue → ℕ → Dir → List Datagram
datagrams net circuit dir = queue_of dir (slice_get net.circuits circuit)
