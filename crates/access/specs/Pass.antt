-- A pass over all circuits' sockets: in slices, of which each is answered before the next one begins.
use Rattle.std.specs.Prelude.{◌≡◌, ◌≤◌, ◌+◌, ◌*◌, ◌==◌, ◌⊎◌, ℕ, zero, suc, Bool, true, false, List, [], length}
use Rattle.types.specs.declared.dest.Proto.{Proto}
use Rattle.types.specs.declared.dest.Proto.TheVariants.{V4, V6}
use Rattle.config.specs.Topology.{Topology}
use Rattle.counts.specs.Tally.{CircuitFate}
use Rattle.relay.specs.Relays.{relayed_down_in}
use Rattle.udp.specs.History.{Entry}
use Rattle.udp.specs.declared.history.Role.{Role}
use Rattle.udp.specs.declared.history.Role.TheVariants as role
use Rattle.access.specs.Access.{AccessValue, AreRounds, HasCarried, HasServed, HasTicked}
use Rattle.access.specs.Moments.{HasReadClocks}
use Rattle.access.specs.Turn.{Both, CircuitSocket, InOrder, IsIdle, IsSentDown, IsTaken, Tries}

-- ---- a slice

-- the sockets of a protocol of so many circuits, from this one on, once each
abbrev pub SocketsFrom : Topology → Proto → ℕ → ℕ → Tries
SocketsFrom topology proto from = InOrder (λ i. CircuitSocket topology (from + i) proto)

-- Frames are taken from so many circuits, one from each at most: to the last circuit, or until there are 16 frames.
pub record HasTakenFrames (proto : Proto) (from circuits frames : ℕ) (old new : AccessValue) : Type 0 where
  pub carried : HasCarried (SocketsFrom old.topology proto from circuits) frames old new
  pub few : frames ≤ 16
  pub ends : (from + circuits ≡ length old.topology.circuits) ⊎ (frames ≡ 16)

-- The server takes and answers a batch, and a second one if the first was full.
abbrev pub SecondBatch : Bool → ℕ → ℕ → AccessValue → AccessValue → Type 0
SecondBatch true now count old new = HasServed now count old new
SecondBatch false now count old new = (count ≡ 0) × (new ≡ old)

pub record HasAnswered (now count : ℕ) (old new : AccessValue) : Type 0 where
  pub first : ℕ
  pub second : ℕ
  pub middle : AccessValue
  pub batch : HasServed now first old middle
  pub other : SecondBatch (first == old.batch) now second middle new
  pub count_is : count ≡ first + second

-- A relay's socket is tried until none waits, or 32 datagrams were taken, each of which goes on to the circuit that it is for.
abbrev pub IsAnswerTaken : Topology → ℕ → ℕ → Tries
IsAnswerTaken topology port r = IsTaken (role.Relay r) (λ from datagram. IsSentDown port (relayed_down_in topology r from datagram))

abbrev pub EndsBy : Role → Bool → Tries
EndsBy socket true entries outcomes = (entries ≡ []) × (outcomes ≡ [])
EndsBy socket false entries outcomes = IsIdle socket entries outcomes

pub record IsEmptied (topology : Topology) (port r : ℕ) (entries : List Entry) (outcomes : List CircuitFate) : Type 0 where
  pub taken : ℕ
  pub few : taken ≤ 32
  pub tried : Both (InOrder (λ i. IsAnswerTaken topology port r) taken) (EndsBy (role.Relay r) (taken == 32)) entries outcomes

abbrev pub RelaysEmptied : Topology → ℕ → Tries
RelaysEmptied topology port = InOrder (IsEmptied topology port) (length topology.relays)

-- frames from so many circuits' sockets, then the server's two, then the relays'
pub record IsSlice (now : ℕ) (proto : Proto) (from circuits count : ℕ) (old new : AccessValue) : Type 0 where
  pub relayed : AccessValue
  pub served : AccessValue
  pub frames : ℕ
  pub datagrams : ℕ
  pub answers : ℕ
  pub from_circuits : HasTakenFrames proto from circuits frames old relayed
  pub at_server : HasAnswered now datagrams relayed served
  pub from_relays : HasCarried (RelaysEmptied old.topology old.port) answers served new
  pub count_is : count ≡ frames + datagrams + answers

-- ---- a pass

-- so many slices, one after the other, from the first circuit up to this one
abbrev pub AreSlices : ℕ → Proto → ℕ → ℕ → ℕ → AccessValue → AccessValue → Type 0
AreSlices now proto zero to count old new = (to ≡ 0) × (count ≡ 0) × (new ≡ old)
AreSlices now proto (suc n) to count old new =
    (from : ℕ) × (before : ℕ) × (middle : AccessValue) × AreSlices now proto n from before old middle
    × (circuits : ℕ) × (more : ℕ) × IsSlice now proto from circuits more middle new × (to ≡ from + circuits) × (count ≡ before + more)

-- the sockets of all circuits of a protocol
pub record HasTakenAll (now : ℕ) (proto : Proto) (count : ℕ) (old new : AccessValue) : Type 0 where
  pub slices : ℕ
  pub taken : AreSlices now proto slices (length old.topology.circuits) count old new

-- the DHCPv4 sockets, then the DHCPv6 ones, and then a tick
pub record HasPassed (now count : ℕ) (old new : AccessValue) : Type 0 where
  pub taken4 : AccessValue
  pub taken6 : AccessValue
  pub count4 : ℕ
  pub count6 : ℕ
  pub of4 : HasTakenAll now V4 count4 old taken4
  pub of6 : HasTakenAll now V6 count6 taken4 taken6
  pub ticks : HasTicked now taken6 new
  pub count_is : count ≡ count4 + count6

-- ---- passes

-- Both clocks were read, and a pass was made at the moment of the service's clock, in which at most so many datagrams were taken. That
-- clock itself knows what came before.
pub record HasPassedOnce (before now : ℕ) (old new : AccessValue) : Type 0 where
  pub read : AccessValue
  pub count : ℕ
  pub reads : HasReadClocks now old.clock read.clock old.history read.history
  pub rest : read ≡ record old { history = read.history; clock = read.clock }
  pub pass : HasPassed now count read new
  pub few : count ≤ 38 * (length old.topology.circuits + 15)

-- so many passes, each at a moment of its own
abbrev pub HasMadePasses : ℕ → ℕ → AccessValue → AccessValue → Type 0
HasMadePasses = AreRounds HasPassedOnce
