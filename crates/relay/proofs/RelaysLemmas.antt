-- All relays, on the way down: what each step of a datagram comes to.
use Rattle.std.proofs.Common.{◌≡◌, ℕ, true, false, List, Option, Some, Result, Ok, Err, refl, sym, ap}
use Rattle.std.specs.Prelude.{slice_get}
use Rattle.types.specs.declared.addr.Source.{Source}
use Rattle.types.specs.declared.dest.Proto.{Proto}
use Rattle.types.specs.declared.dest.Proto.TheVariants.{V4, V6}
use Rattle.types.specs.declared.discard.Discard.{Discard}
use Rattle.types.specs.declared.discard.Discard.TheVariants as reason
use Rattle.v4_message.specs.Spelling.{MessageValue}
use Rattle.v6_options.specs.Codes.{RELAY_MESSAGE, INTERFACE_ID}
use Rattle.v6_options.specs.Spelling.{look_up}
use Rattle.v6_message.specs.Relay.{RelayValue}
use Rattle.config.specs.CircuitPart.{CircuitPart}
use Rattle.types.specs.Addr.{same_source}
use Rattle.v4_message.specs.Agent.{agent_of}
use Rattle.relay.specs.Down.{AddressedFrame, frame_on_link}
use Rattle.relay.specs.Down4.{addressed_by4, addressed_frame4, reply_of, suboptions_in}
use Rattle.relay.specs.Down6.{addressed_by, addressed_frame6, reply_of6}
use Rattle.config.specs.Topology.{Topology, relay_circuit}
use Rattle.relay.specs.Relays.{addressed_frame, for_circuit, link_of, or_unknown, own_circuit, own_circuit_from, proto_of, relayed_down_in, relayed_down_of, relayed_down_from}

-- ---- by the source

pub by_proto : (topology : Topology) (relay : ℕ) (source : Source) (datagram : List ℕ) (proto : Proto)
    → proto_of topology source ≡ Some proto
    → relayed_down_in topology relay source datagram ≡ relayed_down_from topology relay proto datagram
unfolding relayed_down_in
by_proto topology relay source datagram proto is = ap (relayed_down_of topology relay datagram) is

pub is_v4 : (topology : Topology) (source : Source) → same_source source topology.listen4 ≡ true → proto_of topology source ≡ Some V4
is_v4 topology source four = rw four refl

pub is_v6 : (topology : Topology) (source : Source)
    → same_source source topology.listen4 ≡ false → same_source source topology.listen6 ≡ true → proto_of topology source ≡ Some V6
is_v6 topology source not_four six = rw (not_four, six) refl

pub from_elsewhere : (topology : Topology) (relay : ℕ) (source : Source) (datagram : List ℕ)
    → same_source source topology.listen4 ≡ false → same_source source topology.listen6 ≡ false
    → relayed_down_in topology relay source datagram ≡ Err reason.NotServer
unfolding relayed_down_in
from_elsewhere topology relay source datagram not_four not_six = rw (not_four, not_six) refl

-- ---- by the frame in the datagram, and its circuit

pub no_frame : (topology : Topology) (relay : ℕ) (proto : Proto) (datagram : List ℕ) (why : Discard)
    → addressed_frame proto datagram ≡ Err why → relayed_down_from topology relay proto datagram ≡ Err why
unfolding relayed_down_from
no_frame topology relay proto datagram why refused = rw refused refl

pub no_circuit : (topology : Topology) (relay : ℕ) (proto : Proto) (datagram : List ℕ) (reply : AddressedFrame) (why : Discard)
    → addressed_frame proto datagram ≡ Ok reply → own_circuit topology relay reply.circuit_id ≡ Err why
    → relayed_down_from topology relay proto datagram ≡ Err why
unfolding relayed_down_from
no_circuit topology relay proto datagram reply why read refused = rw (read, refused) refl

pub to_circuit : (topology : Topology) (relay : ℕ) (proto : Proto) (datagram : List ℕ) (reply : AddressedFrame) (c : ℕ) (part : CircuitPart)
    → addressed_frame proto datagram ≡ Ok reply → own_circuit topology relay reply.circuit_id ≡ Ok (c, part)
    → relayed_down_from topology relay proto datagram ≡ for_circuit c (frame_on_link (link_of proto part) reply.link reply.frame)
unfolding relayed_down_from
to_circuit topology relay proto datagram reply c part read own = rw (read, own) refl

-- ---- the frame of each protocol

pub no_reply4 : (datagram : List ℕ) (why : Discard) → Err why ≡ reply_of datagram → addressed_frame4 datagram ≡ Err why
no_reply4 datagram why refused = rw (sym refused) refl

pub no_suboptions : (datagram : List ℕ) (m : MessageValue) (why : Discard)
    → Ok m ≡ reply_of datagram → Err why ≡ suboptions_in (agent_of m) → addressed_frame4 datagram ≡ Err why
no_suboptions datagram m why reply refused = rw (sym reply, sym refused) refl

pub frame4_there : (datagram : List ℕ) (m : MessageValue) (suboptions : List (ℕ × List ℕ))
    → Ok m ≡ reply_of datagram → Ok suboptions ≡ suboptions_in (agent_of m) → addressed_frame4 datagram ≡ Ok (addressed_by4 m suboptions)
frame4_there datagram m suboptions reply held = rw (sym reply, sym held) refl

pub no_reply6 : (datagram : List ℕ) (why : Discard) → Err why ≡ reply_of6 datagram → addressed_frame6 datagram ≡ Err why
no_reply6 datagram why refused = rw (sym refused) refl

pub frame6_is : (datagram : List ℕ) (m : RelayValue) (result : Result AddressedFrame Discard)
    → Ok m ≡ reply_of6 datagram → result ≡ addressed_by m (look_up INTERFACE_ID m.options) (look_up RELAY_MESSAGE m.options)
    → addressed_frame6 datagram ≡ result
frame6_is datagram m result reply is = rw (sym reply) (sym is)

-- ---- the circuit that a reply names

pub own_from : (topology : Topology) (relay : ℕ) (source : Source) (id : Option (List ℕ)) → slice_get topology.relays relay ≡ Some source
    → own_circuit topology relay id ≡ or_unknown (relay_circuit topology source id)
own_from topology relay source id there = ap (own_circuit_from topology id) there
