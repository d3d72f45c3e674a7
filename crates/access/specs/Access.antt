-- What shows of relay and server over sockets, and what a turn does.
use Rattle.std.specs.Prelude.{◌≡◌, ◌≤◌, ◌<◌, ◌+◌, ◌*◌, ◌++◌, ℕ, zero, suc, All, true, List, length, map, Option, Some, None, option_map, slice_get, Result, ⊤}
use Rattle.types.specs.declared.addr.Source.{Source}
use Rattle.types.specs.declared.dest.Proto.{Proto}
use Rattle.types.specs.declared.dest.Proto.TheVariants.{V4}
use Rattle.types.specs.declared.discard.Discard.{Discard}
use Rattle.lease_disk.specs.FileDisk.{FileDiskValue, doubt_of}
use Rattle.dispatch.specs.Batch.{circuits_of}
use Rattle.dispatch.specs.Regions.{HasRegions}
use Rattle.circuit_server.specs.Server.{Book, book_at}
use Rattle.dispatch.specs.ServerValue.{BeginsAsFound, HaveSettledRegions, ServerValue, books_in}
use Rattle.config.specs.CircuitPart.{parts_of}
use Rattle.config.specs.Topology.{IsTopology, Topology, serves, topology_of}
use Rattle.settings.specs.Settings.{Settings}
use Rattle.udp.specs.History.{Entry, Ticked, with_entry}
use Rattle.service_clock.specs.Shown.{Shown, unset}
use Rattle.counts.specs.Counts.{counted_all}
use Rattle.counts.specs.Tally.{CircuitFate, nothing_taken, tallied_all}
use Rattle.access.specs.Batch.{AreReceived, AreReceivedAgain, AreReplied, HasTried, Serving, serving}
use Rattle.access.specs.Moments.{HasRead}
use Rattle.access.specs.Polling.{IsPolled, deliveries_in}
use Rattle.access.specs.declared.access.AccessFault.{AccessFault}
use Rattle.access.specs.declared.access.AccessFault.TheVariants as fault
use Rattle.sockets.specs.Sockets.{AreBound}
use Rattle.dispatch.specs.declared.server.OpenFault.{OpenFault}
use Rattle.dispatch.specs.declared.server.OpenFault.TheVariants as open_fault
use Rattle.sockets.specs.declared.sockets.SocketFault.{SocketFault}
use Rattle.sockets.specs.declared.sockets.SocketFault.TheVariants as socket
use Rattle.sockets.specs.declared.sockets.Sockets.{Sockets}
use Rattle.counts.specs.declared.counts.Counts.{Counts}
use Rattle.counts.specs.declared.counts.Fate.{Fate}
use Rattle.counts.specs.declared.tally.Tally.{Tally}
use Rattle.access.specs.Turn.{CircuitsSockets, RelaysSockets, Tries}

pub record AccessValue : Type 0 where
  -- what the relays know of the configuration
  pub topology : Topology
  pub server : ServerValue
  pub disk : FileDiskValue
  -- the format in which the opening found each circuit's region
  pub formats : List (Option ℕ)
  -- the first of the circuits' ports
  pub port : ℕ
  -- how many datagrams the server takes at most in a turn, and which of its sockets the next turn tries first
  pub batch : ℕ
  pub first : Proto
  -- what became of the datagrams that were taken, of all and of those of each circuit
  pub tally : Tally
  -- what happened at the sockets, and how many turns were made
  pub history : List Entry
  pub turns : ℕ
  -- the clock that passes go by
  pub clock : Shown

-- each circuit is served
abbrev pub ServesEach : Topology → Type 0
ServesEach topology = (c : ℕ) → c < length topology.circuits → serves topology c ≡ true

-- Each circuit and each relay has its sockets, which have their roles, their addresses and this history, each circuit has a region, and each is served.
abbrev pub IsAccess : Topology → Sockets → ServerValue → ℕ → ℕ → ℕ → ℕ → Source → Source → Type 0
IsAccess topology sockets server regions port batch history listen4 listen6 =
    (length sockets.circuits.items ≡ length topology.circuits) × (length sockets.circuits.items ≤ 1024) × All (λ circuit. circuit.relay < length sockets.relays.items) sockets.circuits.items
    × (length sockets.relays.items ≡ length topology.relays) × (length sockets.relays.items ≤ 8) × HasRegions server.topology.circuits regions × AreBound topology port history sockets × ServesEach topology
    × (listen4 ≡ topology.listen4) × (listen6 ≡ topology.listen6) × (port + 4 * length topology.circuits ≤ 65536) × (batch ≤ 16)

-- what is said where a server can't be opened, and where a socket can't
abbrev pub opening_fault : OpenFault → AccessFault
opening_fault open_fault.Memory = fault.Memory
opening_fault open_fault.DiskTooSmall = fault.Disk

abbrev pub socket_fault : SocketFault → AccessFault
socket_fault socket.Memory = fault.Memory
socket_fault (socket.Bind at) = fault.Socket at

-- Where an address is refused, it is one of these.
abbrev pub RefusesSocket : (Source → Type 0) → AccessFault → Type 0
RefusesSocket Bound fault.Memory = ⊤
RefusesSocket Bound fault.Disk = ⊤
RefusesSocket Bound (fault.Socket at) = Bound at
RefusesSocket Bound fault.TooManyCircuits = ⊤
RefusesSocket Bound fault.Ports = ⊤

-- Relay and server of this configuration, over this device, before the first turn: they go on with the history of their sockets.
pub record IsOpenedAccess (config : Settings) (disk : FileDiskValue) (port batch : ℕ) (opening : List Entry) (access : AccessValue) : Type 0 where
  pub topology : access.topology ≡ topology_of config
  pub sound : IsTopology access.topology
  pub served : access.server.topology ≡ topology_of config
  -- each open circuit begins with a book that slots on the device mean
  pub found : BeginsAsFound access.server
  -- and what was read of its region is on the disk, as far as the device can tell
  pub settled : HaveSettledRegions (doubt_of access.disk) access.server
  pub large : HasRegions (parts_of config) access.disk.regions
  pub formats : length access.formats ≡ length config.circuits
  pub least : disk.reads + length config.circuits ≤ access.disk.reads
  pub reads : access.disk.reads ≤ disk.reads + 6 * length config.circuits
  pub writes : access.disk.writes ≤ disk.writes + 4 * length config.circuits
  pub tally : access.tally ≡ nothing_taken (length config.circuits)
  pub port_is : access.port ≡ port
  pub batch_is : access.batch ≡ batch
  pub first : access.first ≡ V4
  pub history : access.history ≡ opening
  pub turns : access.turns ≡ 0
  pub clock : access.clock ≡ unset

-- What relay and server were opened with stays.
pub record StaysSetUp (old new : AccessValue) : Type 0 where
  pub topology : new.topology ≡ old.topology
  pub served : new.server.topology ≡ old.server.topology
  pub regions : new.disk.regions ≡ old.disk.regions
  pub formats : new.formats ≡ old.formats
  pub port : new.port ≡ old.port
  pub batch : new.batch ≡ old.batch

-- ---- sockets

-- Some sockets were tried, and nothing else changed than the tally and the history.
pub record HasCarried (Try : Tries) (count : ℕ) (old new : AccessValue) : Type 0 where
  pub entries : List Entry
  pub outcomes : List CircuitFate
  pub tried : Try entries outcomes
  pub many : length outcomes ≡ count
  pub after : new ≡ record old { tally = tallied_all outcomes old.tally; history = old.history ++ entries }

-- What relays and server know of the configuration, the number of regions and turns, what the opening found, and the clock stay.
pub record HasKept (old new : AccessValue) : Type 0 where
  pub topology : new.topology ≡ old.topology
  pub served : new.server.topology ≡ old.server.topology
  pub regions : new.disk.regions ≡ old.disk.regions
  pub formats : new.formats ≡ old.formats
  pub port : new.port ≡ old.port
  pub batch : new.batch ≡ old.batch
  pub turns : new.turns ≡ old.turns
  pub clock : new.clock ≡ old.clock

-- what serving changes of it
abbrev pub serving_in : AccessValue → Serving
serving_in a = serving a.server a.disk a.tally a.history

-- The server's two sockets were tried. Each datagram that was taken is answered once: together with the others, or alone after that
-- where an earlier one is of the same circuit.
pub record HasServed (now count : ℕ) (old new : AccessValue) : Type 0 where
  -- the tries, the answers to the batch, and what is so when it is saved and when its replies are sent
  pub entries : List Entry
  pub answers : List (Result (List ℕ) Discard)
  pub saved : Serving
  pub tally : Tally
  pub history : List Entry
  pub polled : IsPolled old.batch old.first new.first entries
  pub many : count ≡ length (deliveries_in now entries)
  pub received : AreReceived (deliveries_in now entries) answers (serving old.server old.disk old.tally (old.history ++ entries)) saved
  pub replied : HasTried (AreReplied (deliveries_in now entries) (circuits_of old.server.topology (deliveries_in now entries)) answers count) saved.tally tally saved.history history
  pub again : AreReceivedAgain (deliveries_in now entries) answers count (serving saved.server saved.disk tally history) (serving_in new)
  pub kept : HasKept old new

-- ---- a turn

-- every open circuit's book at this moment
abbrev pub books_at : ℕ → List (Option Book) → List (Option Book)
books_at now books = map (option_map (book_at now)) books

-- All clocks are moved to this moment.
pub record HasTicked (now : ℕ) (old new : AccessValue) : Type 0 where
  pub ticked : books_in new.server ≡ books_at now (books_in old.server)
  pub known : new.server.topology ≡ old.server.topology
  pub rest : new ≡ record old { server = new.server; history = new.history; turns = new.turns }
  pub history : new.history ≡ with_entry (Ticked now) old.history

-- Circuits' sockets, the server's two, relays' sockets, and then a tick: what is so after each.
pub record HasTurned (now count : ℕ) (old new : AccessValue) : Type 0 where
  pub relayed : AccessValue
  pub served : AccessValue
  pub delivered : AccessValue
  pub frames : ℕ
  pub datagrams : ℕ
  pub answers : ℕ
  pub from_circuits : HasCarried (CircuitsSockets old.topology) frames old relayed
  pub at_server : HasServed now datagrams relayed served
  pub from_relays : HasCarried (RelaysSockets old.topology old.port) answers served delivered
  pub ticks : HasTicked now delivered new
  pub many : count ≡ frames + datagrams + answers

-- ---- turns

-- The clock was read, and a turn was made at its moment.
pub record HasTurnedOnce (before now : ℕ) (old new : AccessValue) : Type 0 where
  pub read : AccessValue
  pub count : ℕ
  pub reads : HasRead before now old.history read.history
  pub rest : read ≡ record old { history = read.history }
  pub turn : HasTurned now count read new

-- So many rounds, one after the other, the last one at this moment. Each is told the moment before it and its own.
abbrev pub AreRounds : (ℕ → ℕ → AccessValue → AccessValue → Type 0) → ℕ → ℕ → AccessValue → AccessValue → Type 0
AreRounds Round zero now old new = (now ≡ 0) × (new ≡ old)
AreRounds Round (suc n) now old new = (before : ℕ) × (middle : AccessValue) × AreRounds Round n before old middle × Round before now middle new

-- so many turns, each at the moment of a reading of its own
abbrev pub HasServedTurns : ℕ → ℕ → AccessValue → AccessValue → Type 0
HasServedTurns = AreRounds HasTurnedOnce

-- ---- what follows

-- the clock of no open circuit is before this moment
abbrev pub HasReached : ℕ → ServerValue → Type 0
HasReached now server = (c : ℕ) (book : Book) → slice_get (books_in server) c ≡ Some (Some book) → now ≤ book.clock

-- each closed circuit stays closed
abbrev pub StayClosed : ServerValue → ServerValue → Type 0
StayClosed old new = (c : ℕ) → slice_get (books_in old) c ≡ Some None → slice_get (books_in new) c ≡ Some None

-- something became of each of so many datagrams, and is counted
pub record HasCounted (count : ℕ) (old new : Counts) : Type 0 where
  pub outcomes : List Fate
  pub many : length outcomes ≡ count
  pub after : new ≡ counted_all outcomes old
