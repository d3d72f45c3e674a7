-- The relays of a configuration with all their circuits, in both protocols.
use Rattle.std.specs.Prelude.{ℕ, ◌+◌, min, List, Option, Some, None, slice_get, slice_index, slice_set, Result, Ok, Err, if◌then◌else◌}
use Rattle.types.specs.Addr.{same_source}
use Rattle.types.specs.declared.addr.Source.{Source}
use Rattle.types.specs.declared.dest.Proto.{Proto}
use Rattle.types.specs.declared.dest.Proto.TheVariants.{V4, V6}
use Rattle.types.specs.declared.discard.Discard.{Discard}
use Rattle.types.specs.declared.discard.Discard.TheVariants as reason
use Rattle.config.specs.CircuitPart.{CircuitPart}
use Rattle.config.specs.Topology.{Topology, relay_circuit}
use Rattle.relay.specs.SentFrame.{SentFrame}
use Rattle.relay.specs.Up4.{relayed_up4}
use Rattle.relay.specs.Up6.{relayed_up6}
use Rattle.relay.specs.Down.{◌>>=◌, AddressedFrame, frame_on_link}
use Rattle.relay.specs.Down4.{addressed_frame4, relayed_down4}
use Rattle.relay.specs.Down6.{addressed_frame6, relayed_down6}

-- A client's frame in one circuit: the datagram for the server, or why there is none.
abbrev pub relayed_up : CircuitPart → Proto → List ℕ → Result (List ℕ) Discard
relayed_up part V4 frame = relayed_up4 part frame
relayed_up part V6 frame = relayed_up6 part frame

-- A datagram from the server to one circuit's relay: the frame for the circuit, or why there is none.
abbrev pub relayed_down : CircuitPart → Proto → List ℕ → Result SentFrame Discard
relayed_down part V4 datagram = relayed_down4 part datagram
relayed_down part V6 datagram = relayed_down6 part datagram

-- ---- all circuits

-- A frame for the circuit of this index.
pub record CircuitFrame : Type 0 where
  pub circuit : ℕ
  pub frame : SentFrame

abbrev pub for_circuit : ℕ → Result SentFrame Discard → Result CircuitFrame Discard
for_circuit c (Err why) = Err why
for_circuit c (Ok frame) = Ok (record { circuit = c; frame = frame })

-- a circuit that was found
abbrev pub or_unknown : Option (ℕ × CircuitPart) → Result (ℕ × CircuitPart) Discard
or_unknown None = Err reason.UnknownCircuitDown
or_unknown (Some own) = Ok own

-- by the source of the relay, where there is such a relay
abbrev pub own_circuit_from : Topology → Option (List ℕ) → Option Source → Result (ℕ × CircuitPart) Discard
own_circuit_from topology id None = Err reason.UnknownCircuitDown
own_circuit_from topology id (Some source) = or_unknown (relay_circuit topology source id)

-- the circuit of exactly this id, which has to be one of the relay of this index
abbrev pub own_circuit : Topology → ℕ → Option (List ℕ) → Result (ℕ × CircuitPart) Discard
own_circuit topology relay id = own_circuit_from topology id (slice_get topology.relays relay)

abbrev pub addressed_frame : Proto → List ℕ → Result AddressedFrame Discard
addressed_frame V4 datagram = addressed_frame4 datagram
addressed_frame V6 datagram = addressed_frame6 datagram

-- the address by which the server has to name a circuit's link
abbrev pub link_of : Proto → CircuitPart → List ℕ
link_of V4 part = part.gateway4.0
link_of V6 part = part.link6

-- A datagram of this protocol at the relay of this index: the circuit and its frame, or why there is none.
unfoldable pub relayed_down_from : Topology → ℕ → Proto → List ℕ → Result CircuitFrame Discard
relayed_down_from topology relay proto datagram = do
  reply ← addressed_frame proto datagram
  own ← own_circuit topology relay reply.circuit_id
  for_circuit own.0 (frame_on_link (link_of proto own.1) reply.link reply.frame)

-- the protocol of the server's datagrams from this source; None where it is not the server's
abbrev pub proto_of : Topology → Source → Option Proto
proto_of topology source =
    if same_source source topology.listen4 then Some V4
    else if same_source source topology.listen6 then Some V6
    else None

abbrev pub relayed_down_of : Topology → ℕ → List ℕ → Option Proto → Result CircuitFrame Discard
relayed_down_of topology relay datagram None = Err reason.NotServer
relayed_down_of topology relay datagram (Some proto) = relayed_down_from topology relay proto datagram

-- A datagram at the relay of this index, from this source, which decides the protocol: the circuit and
-- its frame, or why there is none.
unfoldable pub relayed_down_in : Topology → ℕ → Source → List ℕ → Result CircuitFrame Discard
relayed_down_in topology relay source datagram = relayed_down_of topology relay datagram (proto_of topology source)

-- ---- the counters

-- one more for a circuit, up to the greatest 32-bit number
abbrev pub one_more : ℕ → List ℕ → List ℕ
one_more c counts = slice_set counts c (min 4294967295 (slice_index counts c + 1))

-- What shows of the relays: what they know of the configuration, and how many frames of each circuit
-- they discarded.
pub record RelaysValue : Type 0 where
  pub topology : Topology
  pub discarded : List ℕ
