-- What a turn adds to the history: each datagram that was taken is followed by what the definitions make of it.
use Rattle.std.specs.Prelude.{◌≡◌, ◌⊎◌, ℕ, zero, suc, Bool, List, [], ◌∷◌, ◌++◌, length, Some, None, slice_get, Result, Ok, Err, if◌then◌else◌}
use Rattle.types.specs.declared.addr.Source.{Source}
use Rattle.types.specs.declared.dest.Proto.{Proto}
use Rattle.types.specs.declared.dest.Proto.TheVariants.{V4, V6}
use Rattle.types.specs.declared.discard.Discard.{Discard}
use Rattle.config.specs.CircuitPart.{CircuitPart}
use Rattle.config.specs.Topology.{Topology, listen}
use Rattle.relay.specs.Relays.{CircuitFrame, relayed_down_in, relayed_up}
use Rattle.udp.specs.History.{Entry, Empty, Failed, Sent, Took}
use Rattle.udp.specs.declared.history.Role.{Role}
use Rattle.udp.specs.declared.history.Role.TheVariants as role
use Rattle.sockets.specs.Sockets.{client_port, framed, proto_of}
use Rattle.counts.specs.Tally.{CircuitFate, circuit_fate}
use Rattle.counts.specs.declared.counts.Fate.{Fate}
use Rattle.counts.specs.declared.counts.Fate.TheVariants as fate

-- What happens at some sockets, with what becomes of the datagrams that are taken, and for which circuit each is counted.
abbrev pub Tries : Type 1
Tries = List Entry → List CircuitFate → Type 0

-- first the one, then the other
pub record Both (First Second : Tries) (entries : List Entry) (outcomes : List CircuitFate) : Type 0 where
  pub before : List Entry
  pub after : List Entry
  pub done : List CircuitFate
  pub more : List CircuitFate
  pub one : First before done
  pub other : Second after more
  pub entries_are : entries ≡ before ++ after
  pub outcomes_are : outcomes ≡ done ++ more

-- one after the other, from 0 on, so many of them
abbrev pub InOrder : (ℕ → Tries) → ℕ → Tries
InOrder Try zero entries outcomes = (entries ≡ []) × (outcomes ≡ [])
InOrder Try (suc n) entries outcomes = Both (InOrder Try n) (Try n) entries outcomes

-- A socket is tried once: nothing waited, or the receive failed.
abbrev pub IsIdle : Role → Tries
IsIdle socket entries outcomes = ((entries ≡ Empty socket ∷ []) ⊎ (entries ≡ Failed socket ∷ [])) × (outcomes ≡ [])

-- or a datagram was taken, and something is made of its source and its bytes
pub record IsTaken (socket : Role) (Made : Source → List ℕ → List Entry → CircuitFate → Type 0) (entries : List Entry) (outcomes : List CircuitFate) : Type 0 where
  pub from : Source
  pub bytes : List ℕ
  pub rest : List Entry
  pub outcome : CircuitFate
  pub entries_are : entries ≡ Took socket from bytes ∷ rest
  pub outcomes_are : outcomes ≡ outcome ∷ []
  pub made : Made from bytes rest outcome

abbrev pub IsTried : Role → (Source → List ℕ → List Entry → CircuitFate → Type 0) → Tries
IsTried socket Made entries outcomes = IsIdle socket entries outcomes ⊎ IsTaken socket Made entries outcomes

-- Bytes go from a socket to an address, or nothing goes for a reason.
abbrev pub GoesOn : Role → Source → Fate → Result (List ℕ) Discard → List Entry → Fate → Type 0
GoesOn socket to done (Err why) rest became = (rest ≡ []) × (became ≡ fate.Dropped why)
GoesOn socket to done (Ok bytes) rest became = (accepted : Bool) × (rest ≡ Sent socket to bytes accepted ∷ []) × (became ≡ (if accepted then done else fate.Unsent))

-- Bytes go so, or nothing goes, by the history before and after it.
pub record HasSentOn (socket : Role) (to : Source) (done : Fate) (made : Result (List ℕ) Discard) (old new : List Entry) (became : Fate) : Type 0 where
  pub rest : List Entry
  pub history : new ≡ old ++ rest
  pub goes_on : GoesOn socket to done made rest became

-- what a call made, whose bytes are these
abbrev pub with_bytes : Result (Unit {0}) Discard → List ℕ → Result (List ℕ) Discard
with_bytes (Ok _) bytes = Ok bytes
with_bytes (Err why) bytes = Err why

-- ---- a client's frame

-- It goes on from the socket of the circuit's own relay to where the server listens, and is counted for the circuit.
pub record IsSentUp (topology : Topology) (c : ℕ) (proto : Proto) (frame : List ℕ) (rest : List Entry) (outcome : CircuitFate) : Type 0 where
  pub part : CircuitPart
  pub relay : ℕ
  pub its_part : slice_get topology.circuits c ≡ Some part
  pub its_relay : slice_get topology.relays relay ≡ Some part.relay
  pub goes_on : GoesOn (role.Relay relay) (listen topology proto) fate.Relayed (relayed_up part proto frame) rest outcome.became
  pub counted : outcome.circuit ≡ Some c

abbrev pub CircuitSocket : Topology → ℕ → Proto → Tries
CircuitSocket topology c proto = IsTried (role.Circuit c proto) (λ from frame. IsSentUp topology c proto frame)

-- each circuit's two sockets, in order
abbrev pub CircuitsSockets : Topology → Tries
CircuitsSockets topology = InOrder (λ c. Both (CircuitSocket topology c V4) (CircuitSocket topology c V6)) (length topology.circuits)

-- ---- a datagram at a relay

-- What it has for a circuit goes on from that circuit's own socket to its client's port, and is counted for the circuit. What is
-- dropped is counted for none.
abbrev pub IsSentDown : ℕ → Result CircuitFrame Discard → List Entry → CircuitFate → Type 0
IsSentDown port (Err why) rest outcome = (rest ≡ []) × (outcome ≡ circuit_fate None (fate.Dropped why))
IsSentDown port (Ok sent) rest outcome =
    let proto = proto_of sent.frame.dest in
    GoesOn (role.Circuit sent.circuit proto) (client_port port sent.circuit proto) fate.Delivered (Ok (framed sent.frame.dest sent.frame.bytes)) rest outcome.became
    × (outcome.circuit ≡ Some sent.circuit)

abbrev pub RelaySocket : Topology → ℕ → ℕ → Tries
RelaySocket topology port r = IsTried (role.Relay r) (λ from datagram. IsSentDown port (relayed_down_in topology r from datagram))

abbrev pub RelaysSockets : Topology → ℕ → Tries
RelaysSockets topology port = InOrder (RelaySocket topology port) (length topology.relays)
