-- All circuits together, on the way down, do what each does alone.
use Rattle.std.proofs.Common.{◌≡◌, ◌≢◌, ℕ, ◌<◌, Bool, true, false, ◌&&◌, cond, List, [], ◌∷◌, length, get_or, Option, Some, None, Result, Ok, Err, refl, sym, ap, ◌∙◌, subst, arith}
use Rattle.std.specs.Prelude.{slice_get, nat_lt, ◌==◌}
use Rattle.std.specs.List.{position}
use Rattle.std.proofs.lemmas.Bool.{lt-ltb}
use Rattle.std.proofs.lemmas.List.Quantifiers.{position-Some}
use Rattle.std.proofs.lemmas.List.Sums.{position_or_len_is}
use Rattle.std.proofs.lemmas.Option.{get_or_from_slice_get, slice_get-get_or, slice_get_within}
use Rattle.std.proofs.lemmas.Slice.Eq.{bytes_eq-Decides}
use Rattle.types.specs.declared.addr.Source.{Source}
use Rattle.types.specs.declared.dest.Proto.{Proto}
use Rattle.types.specs.declared.dest.Proto.TheVariants.{V4, V6}
use Rattle.types.specs.declared.discard.Discard.{Discard}
use Rattle.types.specs.declared.discard.Discard.TheVariants as reason
use Rattle.v4_message.specs.Spelling.{MessageValue}
use Rattle.config.specs.CircuitPart.{CircuitPart}
use Rattle.relay.specs.SentFrame.{SentFrame}
use Rattle.types.specs.Addr.{same_source}
use Rattle.v4_options.specs.Spelling as four
use Rattle.v4_message.specs.Agent.{agent_of}
use Rattle.v4_message.specs.Reading.{message_of}
use Rattle.v6_options.specs.Codes.{RELAY_MESSAGE, INTERFACE_ID}
use Rattle.v6_options.specs.Spelling.{look_up}
use Rattle.v6_message.specs.Relay.{RelayValue}
use Rattle.v6_message.specs.RelayReading.{relay_of}
use Rattle.relay.specs.Down.{◌>>=◌, AddressedFrame, frame_for, frame_on_link}
use Rattle.relay.specs.Down4.{addressed_by4, is_named, message_in_reply, reply_of, suboptions_in, relayed_down4}
use Rattle.relay.specs.Down6.{addressed_by, frame_inside, relay_in_reply, reply_of6, relayed_down6}
use Rattle.config.specs.Topology.{Topology, circuit_found, circuit_at_index, has_id, listen, relay_circuit, serves}
use Rattle.config.proofs.TopologyLemmas.{bytes_eq_self, own_relay, same_is_one, same_source_self, somewhere}
use Rattle.relay.specs.Relays.{CircuitFrame, addressed_frame, for_circuit, link_of, or_unknown, own_circuit, own_circuit_from, proto_of, relayed_down, relayed_down_in, relayed_down_from}
use Rattle.relay.proofs.RelaysLemmas.{by_proto, is_v4, is_v6, own_from}

-- one circuit's frame, by the frame in the datagram
relayed_down_is : (part : CircuitPart) (proto : Proto) (datagram : List ℕ)
    → relayed_down part proto datagram ≡ (addressed_frame proto datagram >>= frame_for part (link_of proto part))
unfolding relayed_down4 relayed_down6
relayed_down_is part V4 datagram = refl
relayed_down_is part V6 datagram = refl

-- what becomes of a reply in the circuit that is found for it
abbrev in_own : Proto → AddressedFrame → Result (ℕ × CircuitPart) Discard → Result CircuitFrame Discard
in_own proto reply r = r >>= λ own. for_circuit own.0 (frame_on_link (link_of proto own.1) reply.link reply.frame)

-- ---- what comes out for a circuit is its own

at_link : (c : ℕ) (r : Result SentFrame Discard) (frame : CircuitFrame) → for_circuit c r ≡ Ok frame → (c ≡ frame.circuit) × (r ≡ Ok frame.frame)
at_link c (Err why) frame came = absurd cc
at_link c (Ok sent) frame came = let same : record { circuit = c; frame = sent } ≡ frame = cc in (ap (λ f. f.circuit) same, ap (λ f. Ok f.frame) same)

by_relay : (b : Bool) (c : ℕ) (part : CircuitPart) (own : ℕ × CircuitPart) → cond b (Some (c, part)) None ≡ Some own → (c ≡ own.0) × (part ≡ own.1)
by_relay true c part own came = let same : (c, part) ≡ own = cc in (ap (λ o. o.0) same, ap (λ o. o.1) same)
by_relay false c part own came = absurd cc

by_found : (topology : Topology) (source : Source) (id : Option (List ℕ)) (c : ℕ) (found : Option CircuitPart) (own : ℕ × CircuitPart)
    → slice_get topology.circuits c ≡ found → position (has_id id) topology.circuits ≡ Some c
    → circuit_found source c (serves topology c) found ≡ Some own
    → (slice_get topology.circuits own.0 ≡ Some own.1) × (has_id id own.1 ≡ true)
by_found topology source id c None own at first came = absurd cc
by_found topology source id c (Some part) own at first came =
    let is = by_relay (same_source part.relay source && serves topology c) c part own came in
    let named : has_id id part ≡ true =
    ap (has_id id) (sym (get_or_from_slice_get topology.circuits c part part at)) ∙ (position-Some (has_id id) topology.circuits c part first).1 in
    (ap (slice_get topology.circuits) (sym is.0) ∙ at ∙ ap Some is.1, ap (has_id id) (sym is.1) ∙ named)

pub by_index : (topology : Topology) (source : Source) (id : Option (List ℕ)) (index : Option ℕ) (own : ℕ × CircuitPart)
    → position (has_id id) topology.circuits ≡ index → circuit_at_index topology source index ≡ Some own
    → (slice_get topology.circuits own.0 ≡ Some own.1) × (has_id id own.1 ≡ true)
by_index topology source id None own first came = absurd cc
by_index topology source id (Some c) own first came = by_found topology source id c (slice_get topology.circuits c) own refl first came

by_source : (topology : Topology) (id : Option (List ℕ)) (source : Option Source) (own : ℕ × CircuitPart)
    → own_circuit_from topology id source ≡ Ok own
    → (slice_get topology.circuits own.0 ≡ Some own.1) × (has_id id own.1 ≡ true)
by_source topology id None own came = absurd cc
by_source topology id (Some source) own came = known (relay_circuit topology source id) refl came
  where
    known : (found : Option (ℕ × CircuitPart)) → relay_circuit topology source id ≡ found → or_unknown found ≡ Ok own
        → (slice_get topology.circuits own.0 ≡ Some own.1) × (has_id id own.1 ≡ true)
    known None is came = absurd cc
    known (Some other) is came =
        let same : other ≡ own = cc in
        by_index topology source id (position (has_id id) topology.circuits) own refl (is ∙ ap Some same)

by_circuit : (topology : Topology) (relay : ℕ) (proto : Proto) (reply : AddressedFrame) (r : Result (ℕ × CircuitPart) Discard) (frame : CircuitFrame) (part : CircuitPart)
    → own_circuit topology relay reply.circuit_id ≡ r
    → in_own proto reply r ≡ Ok frame
    → slice_get topology.circuits frame.circuit ≡ Some part
    → frame_for part (link_of proto part) reply ≡ Ok frame.frame
by_circuit topology relay proto reply (Err why) frame part found came there = absurd cc
by_circuit topology relay proto reply (Ok own) frame part found came there =
    let its = by_source topology reply.circuit_id (slice_get topology.relays relay) own found in
    let sent = at_link own.0 (frame_on_link (link_of proto own.1) reply.link reply.frame) frame came in
    let both : Some own.1 ≡ Some part = sym its.0 ∙ ap (slice_get topology.circuits) sent.0 ∙ there in
    let same : own.1 ≡ part = cc in
    subst (λ p. frame_for p (link_of proto p) reply ≡ Ok frame.frame) same (rw its.1 sent.1)

by_frame : (topology : Topology) (relay : ℕ) (proto : Proto) (r : Result AddressedFrame Discard) (frame : CircuitFrame) (part : CircuitPart)
    → (r >>= λ reply. in_own proto reply (own_circuit topology relay reply.circuit_id)) ≡ Ok frame
    → slice_get topology.circuits frame.circuit ≡ Some part
    → (r >>= frame_for part (link_of proto part)) ≡ Ok frame.frame
by_frame topology relay proto (Err why) frame part came there = absurd cc
by_frame topology relay proto (Ok reply) frame part came there =
    by_circuit topology relay proto reply (own_circuit topology relay reply.circuit_id) frame part refl came there

pub own_frame : (topology : Topology) (relay : ℕ) (source : Source) (proto : Proto) (datagram : List ℕ) (frame : CircuitFrame) (part : CircuitPart)
    → proto_of topology source ≡ Some proto
    → relayed_down_in topology relay source datagram ≡ Ok frame → slice_get topology.circuits frame.circuit ≡ Some part
    → relayed_down part proto datagram ≡ Ok frame.frame
unfolding relayed_down_from
own_frame topology relay source proto datagram frame part is came there =
    relayed_down_is part proto datagram
    ∙ by_frame topology relay proto (addressed_frame proto datagram) frame part (sym (by_proto topology relay source datagram proto is) ∙ came) there

-- ---- one circuit

not_same : (a b : Source) → (a ≡ b → ⊥) → same_source a b ≡ false
not_same a b apart = by_test (same_source a b) refl
  where
    by_test : (t : Bool) → same_source a b ≡ t → t ≡ false
    by_test true is = absurd (apart (same_is_one a b is))
    by_test false is = refl

-- the server's address of a protocol decides that protocol
pub proto_of_listen : (topology : Topology) (proto : Proto) → topology.listen4 ≢ topology.listen6 → proto_of topology (listen topology proto) ≡ Some proto
proto_of_listen topology V4 apart = is_v4 topology topology.listen4 (same_source_self topology.listen4)
proto_of_listen topology V6 apart =
    is_v6 topology topology.listen6 (not_same topology.listen6 topology.listen4 (λ same. apart (sym same))) (same_source_self topology.listen6)

position_of_one : {X : Type 0} (p : X → Bool) (x : X) → position p (x ∷ []) ≡ cond (p x) (Some 0) None
position_of_one p x = by_test (p x) refl
  where
    by_test : (b : Bool) → p x ≡ b → position p (x ∷ []) ≡ cond b (Some 0) None
    by_test true passes = rw (position_or_len_is p (x ∷ []) 0 x (omega arith) (λ k less. absurd (omega (arith, less))) (λ less. passes)) refl
    by_test false fails = rw (position_or_len_is p (x ∷ []) 1 x (omega arith) (λ k less. let first : k ≡ 0 = omega (arith, less) in ap (λ i. p (get_or (x ∷ []) i x)) first ∙ fails) (λ less. absurd (omega (arith, less)))) refl

module _ (topology : Topology) (relay : ℕ) (proto : Proto) (part : CircuitPart)
    (only : topology.circuits ≡ part ∷ []) (served : serves topology 0 ≡ true) (behind : slice_get topology.relays relay ≡ Some part.relay) where
  at_only : (b : Bool) → or_unknown (circuit_at_index topology part.relay (cond b (Some 0) None)) ≡ cond b (Ok (0, part)) (Err reason.UnknownCircuitDown)
  at_only true = rw (ap (λ circuits. slice_get circuits 0) only, same_source_self part.relay, served) refl
  at_only false = refl

  only_own : (id : Option (List ℕ)) → own_circuit topology relay id ≡ cond (has_id id part) (Ok (0, part)) (Err reason.UnknownCircuitDown)
  only_own id =
      own_from topology relay part.relay id behind
      ∙ ap (λ index. or_unknown (circuit_at_index topology part.relay index)) (ap (position (has_id id)) only ∙ position_of_one (has_id id) part)
      ∙ at_only (has_id id part)

  by_name : (b : Bool) (reply : AddressedFrame)
      → in_own proto reply (cond b (Ok (0, part)) (Err reason.UnknownCircuitDown))
      ≡ for_circuit 0 (cond b (frame_on_link (link_of proto part) reply.link reply.frame) (Err reason.UnknownCircuitDown))
  by_name true reply = refl
  by_name false reply = refl

  only_frame : (r : Result AddressedFrame Discard)
      → (r >>= λ reply. in_own proto reply (own_circuit topology relay reply.circuit_id))
      ≡ for_circuit 0 (r >>= frame_for part (link_of proto part))
  only_frame (Err why) = refl
  only_frame (Ok reply) =
      ap (in_own proto reply) (only_own reply.circuit_id)
      ∙ by_name (has_id reply.circuit_id part) reply

pub only_one : (topology : Topology) (relay : ℕ) (source : Source) (proto : Proto) (datagram : List ℕ) (part : CircuitPart)
    → topology.circuits ≡ part ∷ [] → serves topology 0 ≡ true → slice_get topology.relays relay ≡ Some part.relay → proto_of topology source ≡ Some proto
    → relayed_down_in topology relay source datagram ≡ for_circuit 0 (relayed_down part proto datagram)
unfolding relayed_down_from
only_one topology relay source proto datagram part only served behind is =
    by_proto topology relay source datagram proto is
    ∙ only_frame topology relay proto part only served behind (addressed_frame proto datagram)
    ∙ ap (for_circuit 0) (sym (relayed_down_is part proto datagram))

-- ---- the circuit that is named

-- what has both values has one
same_value : (a b : CircuitPart) (o : Option (List ℕ)) → has_id o a ≡ true → has_id o b ≡ true → a.id ≡ b.id
same_value a b None p q = absurd cc
same_value a b (Some v) p q = sym ((bytes_eq-Decides v a.id).0 p) ∙ (bytes_eq-Decides v b.id).0 q

-- the only circuit with an id is the first
pub first_with_id : (circuits : List CircuitPart) (c : ℕ) (part : CircuitPart) (id : Option (List ℕ))
    → slice_get circuits c ≡ Some part → ((d : ℕ) (other : CircuitPart) → slice_get circuits d ≡ Some other → other.id ≡ part.id → d ≡ c)
    → has_id id part ≡ true → position (has_id id) circuits ≡ Some c
first_with_id circuits c part id there alone named =
    rw (position_or_len_is (has_id id) circuits c part (omega (arith, within)) before (λ less. here), lt-ltb c (length circuits) within) refl
  where
    within : c < length circuits
    within = slice_get_within circuits c part there

    here : has_id id (get_or circuits c part) ≡ true
    here = ap (has_id id) (get_or_from_slice_get circuits c part part there) ∙ named

    before : (k : ℕ) → k < c → has_id id (get_or circuits k part) ≡ false
    before k less = by_test (has_id id (get_or circuits k part)) refl
      where
        by_test : (b : Bool) → has_id id (get_or circuits k part) ≡ b → b ≡ false
        by_test false is = refl
        by_test true is =
            let other = get_or circuits k part in
            let same : k ≡ c = alone k other (slice_get-get_or circuits k part (omega (arith, less, within))) (same_value other part id is named) in
            absurd (omega (arith, less, same))

pub named_first : (circuits : List CircuitPart) (c : ℕ) (part : CircuitPart) (suboptions : List (ℕ × List ℕ))
    → slice_get circuits c ≡ Some part → ((d : ℕ) (other : CircuitPart) → slice_get circuits d ≡ Some other → other.id ≡ part.id → d ≡ c)
    → is_named suboptions part ≡ true → position (is_named suboptions) circuits ≡ Some c
named_first circuits c part suboptions = first_with_id circuits c part (four.look_up 1 suboptions)

module _ (topology : Topology) (relay c : ℕ) (proto : Proto) (part : CircuitPart) (there : slice_get topology.circuits c ≡ Some part)
    (served : serves topology c ≡ true)
    (alone : (d : ℕ) (other : CircuitPart) → slice_get topology.circuits d ≡ Some other → other.id ≡ part.id → d ≡ c)
    (behind : slice_get topology.relays relay ≡ Some part.relay) where
  its_own : (id : Option (List ℕ)) → has_id id part ≡ true → own_circuit topology relay id ≡ Ok (c, part)
  its_own id named =
      own_from topology relay part.relay id behind
      ∙ ap or_unknown (
      somewhere topology part.relay id c part (first_with_id topology.circuits c part id there alone named) there
      ∙ own_relay part.relay c (serves topology c) part (same_source_self part.relay) served
      )

  its_frame : (r : Result AddressedFrame Discard) → ((reply : AddressedFrame) → r ≡ Ok reply → has_id reply.circuit_id part ≡ true)
      → (r >>= λ reply. in_own proto reply (own_circuit topology relay reply.circuit_id))
      ≡ for_circuit c (r >>= frame_for part (link_of proto part))
  its_frame (Err why) names = refl
  its_frame (Ok reply) names =
      let named = names reply refl in
      ap (in_own proto reply) (its_own reply.circuit_id named)
      ∙ sym (ap (λ b. for_circuit c (cond b (frame_on_link (link_of proto part) reply.link reply.frame) (Err reason.UnknownCircuitDown))) named)

-- a datagram whose frame, if there is one, is for this circuit comes down to it
its_circuit : (topology : Topology) (relay : ℕ) (source : Source) (proto : Proto) (datagram : List ℕ) (c : ℕ) (part : CircuitPart)
    → slice_get topology.circuits c ≡ Some part → serves topology c ≡ true → ((d : ℕ) (other : CircuitPart) → slice_get topology.circuits d ≡ Some other → other.id ≡ part.id → d ≡ c)
    → slice_get topology.relays relay ≡ Some part.relay → proto_of topology source ≡ Some proto
    → ((reply : AddressedFrame) → addressed_frame proto datagram ≡ Ok reply → has_id reply.circuit_id part ≡ true)
    → relayed_down_in topology relay source datagram ≡ for_circuit c (relayed_down part proto datagram)
unfolding relayed_down_from
its_circuit topology relay source proto datagram c part there served alone behind is names =
    by_proto topology relay source datagram proto is
    ∙ its_frame topology relay c proto part there served alone behind (addressed_frame proto datagram) names
    ∙ ap (for_circuit c) (sym (relayed_down_is part proto datagram))

-- ---- the circuit that a DHCPv4 reply names

-- a reply that was read is the datagram's message
reply_message : (datagram : List ℕ) (m read : MessageValue) → message_of datagram ≡ Ok m → reply_of datagram ≡ Ok read → read ≡ m
unfolding reply_of
reply_message datagram m read is replied = by_length (nat_lt 1280 (length datagram)) (subst (λ r. cond (nat_lt 1280 (length datagram)) (Err reason.MalformedDown) (message_in_reply r) ≡ Ok read) is replied)
  where
    by_op : (b : Bool) → cond b (Ok m) (Err reason.MalformedDown) ≡ Ok read → read ≡ m
    by_op true h = cc
    by_op false h = absurd cc

    by_length : (b : Bool) → cond b (Err reason.MalformedDown) (message_in_reply (Ok m)) ≡ Ok read → read ≡ m
    by_length true h = absurd cc
    by_length false h = by_op (m.header.op == 2) h

named_by_agent : (r : Result MessageValue Discard) (m : MessageValue) (suboptions : List (ℕ × List ℕ)) (reply : AddressedFrame)
    → ((read : MessageValue) → r ≡ Ok read → read ≡ m) → agent_of m ≡ Some (Ok suboptions)
    → (r >>= λ m. suboptions_in (agent_of m) >>= λ found. Ok (addressed_by4 m found)) ≡ Ok reply
    → reply.circuit_id ≡ four.look_up 1 suboptions
named_by_agent (Err why) m suboptions reply same agent h = absurd cc
named_by_agent (Ok read) m suboptions reply same agent h =
    let found : suboptions_in (agent_of read) ≡ Ok suboptions = ap (λ m. suboptions_in (agent_of m)) (same read refl) ∙ ap suboptions_in agent in
    let is : Ok (addressed_by4 read suboptions) ≡ Ok reply = subst (λ r. (r >>= λ found. Ok (addressed_by4 read found)) ≡ Ok reply) found h in
    let same_reply : addressed_by4 read suboptions ≡ reply = cc in
    sym (ap (λ reply. reply.circuit_id) same_reply)

pub its_circuit4 : (topology : Topology) (relay : ℕ) (source : Source) (datagram : List ℕ) (c : ℕ) (part : CircuitPart) (m : MessageValue) (suboptions : List (ℕ × List ℕ))
    → slice_get topology.circuits c ≡ Some part → serves topology c ≡ true → ((d : ℕ) (other : CircuitPart) → slice_get topology.circuits d ≡ Some other → other.id ≡ part.id → d ≡ c)
    → slice_get topology.relays relay ≡ Some part.relay → source ≡ topology.listen4
    → message_of datagram ≡ Ok m → agent_of m ≡ Some (Ok suboptions) → is_named suboptions part ≡ true
    → relayed_down_in topology relay source datagram ≡ for_circuit c (relayed_down part V4 datagram)
its_circuit4 topology relay source datagram c part m suboptions there served alone behind server is agent named =
    its_circuit topology relay source V4 datagram c part there served alone behind
    (is_v4 topology source (ap (same_source source) (sym server) ∙ same_source_self source))
    (λ reply read. ap (λ id. has_id id part) (named_by_agent (reply_of datagram) m suboptions reply (λ read replied. reply_message datagram m read is replied) agent read) ∙ named)

-- ---- the circuit that a DHCPv6 reply names

reply_relay : (datagram : List ℕ) (m read : RelayValue) → relay_of datagram ≡ Ok m → reply_of6 datagram ≡ Ok read → read ≡ m
unfolding reply_of6
reply_relay datagram m read is replied = by_length (nat_lt 1280 (length datagram)) (subst (λ r. cond (nat_lt 1280 (length datagram)) (Err reason.MalformedDown) (relay_in_reply r) ≡ Ok read) is replied)
  where
    by_kind : (b : Bool) → cond b (Ok m) (Err reason.MalformedDown) ≡ Ok read → read ≡ m
    by_kind true h = cc
    by_kind false h = absurd cc

    by_length : (b : Bool) → cond b (Err reason.MalformedDown) (relay_in_reply (Ok m)) ≡ Ok read → read ≡ m
    by_length true h = absurd cc
    by_length false h = by_kind (m.kind == 13) h

named_by_id : (m : RelayValue) (id : List ℕ) (message : Option (List ℕ)) (reply : AddressedFrame)
    → addressed_by m (Some id) message ≡ Ok reply → reply.circuit_id ≡ Some id
named_by_id m id None reply h = absurd cc
named_by_id m id (Some message) reply h =
    let same : record { circuit_id = Some id; link = m.link_address; frame = frame_inside m message } ≡ reply = cc in
    sym (ap (λ reply. reply.circuit_id) same)

named_by_interface : (r : Result RelayValue Discard) (m : RelayValue) (id : List ℕ) (reply : AddressedFrame)
    → ((read : RelayValue) → r ≡ Ok read → read ≡ m) → look_up INTERFACE_ID m.options ≡ Some id
    → (r >>= λ m. addressed_by m (look_up INTERFACE_ID m.options) (look_up RELAY_MESSAGE m.options)) ≡ Ok reply
    → reply.circuit_id ≡ Some id
named_by_interface (Err why) m id reply same given h = absurd cc
named_by_interface (Ok read) m id reply same given h =
    let found : look_up INTERFACE_ID read.options ≡ Some id = ap (λ (m : RelayValue). look_up INTERFACE_ID m.options) (same read refl) ∙ given in
    named_by_id read id (look_up RELAY_MESSAGE read.options) reply
    (subst (λ found. addressed_by read found (look_up RELAY_MESSAGE read.options) ≡ Ok reply) found h)

pub its_circuit6 : (topology : Topology) (relay : ℕ) (source : Source) (datagram : List ℕ) (c : ℕ) (part : CircuitPart) (m : RelayValue)
    → slice_get topology.circuits c ≡ Some part → serves topology c ≡ true → ((d : ℕ) (other : CircuitPart) → slice_get topology.circuits d ≡ Some other → other.id ≡ part.id → d ≡ c)
    → slice_get topology.relays relay ≡ Some part.relay → proto_of topology source ≡ Some V6
    → relay_of datagram ≡ Ok m → look_up INTERFACE_ID m.options ≡ Some part.id
    → relayed_down_in topology relay source datagram ≡ for_circuit c (relayed_down part V6 datagram)
its_circuit6 topology relay source datagram c part m there served alone behind server is given =
    its_circuit topology relay source V6 datagram c part there served alone behind server
    (λ reply read. ap (λ id. has_id id part) (named_by_interface (reply_of6 datagram) m part.id reply (λ read replied. reply_relay datagram m read is replied) given read) ∙ bytes_eq_self part.id)
