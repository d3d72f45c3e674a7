-- What the server answers to a circuit's datagram, and what its reply bears.
use Rattle.std.proofs.Common.{◌≡◌, ℕ, Bool, true, false, cond, List, [], ◌∷◌, ◌++◌, length, refl, sym, ap, subst, ◌∙◌}
use Rattle.std.specs.Prelude.{Option, Some, None, Result, Ok, Err, option_map, slice_get, not, nat_lt, ◌==◌}
use Rattle.std.specs.List.{position}
use Rattle.std.specs.Result.{result_map_both}
use Rattle.types.specs.Delivery.{DeliveryValue, delivery}
use Rattle.types.specs.Addr.{is_unspecified}
use Rattle.types.specs.declared.addr.Addr4.{Addr4}
use Rattle.types.specs.declared.addr.Source.{Source}
use Rattle.types.specs.declared.discard.Discard.{Discard}
use Rattle.exchange.specs.declared.request4.Reply4.{Reply4}
use Rattle.exchange.specs.declared.request4.Reply4.TheVariants.{Offer, Ack, Inform, Nak}
use Rattle.exchange.specs.declared.request4.Request4.{Request4}
use Rattle.v4_options.specs.declared.fault.SuboptFault.{SuboptFault}
use Rattle.v4_options.specs.Codes.{CIRCUIT_ID}
use Rattle.v4_options.specs.Spelling.{look_up}
use Rattle.v4_options.specs.Subreading.{suboptions_of}
use Rattle.v4_message.specs.declared.fault.MessageFault.{MessageFault}
use Rattle.v4_message.specs.Reading.{message_of}
use Rattle.v4_message.specs.Spelling.{MessageValue}
use Rattle.config.specs.CircuitPart.{CircuitPart, pool4_of}
use Rattle.config.specs.Topology.{Topology, has_id, is_relay, relay_circuit}
use Rattle.bindings_v4.specs.Table4.{answer4}
use Rattle.types.specs.declared.dest.Proto.{Proto}
use Rattle.types.specs.declared.dest.Proto.TheVariants.{V4}
use Rattle.requests.specs.Addressee.{addressee}
use Rattle.requests.specs.Addressee4.{agent_check, link_fault4, message_check}
use Rattle.requests.specs.NamedCircuit.{circuit_check, link_check}
use Rattle.requests.specs.Request4.{request4_in}
use Rattle.circuit_server.specs.Server.{Book, book_at, datagram_served, request4_served, message4_served, served}
use Rattle.relay.specs.Down4.{is_named}
use Rattle.relay.proofs.AllLemmas.{by_index}
use Rattle.replies.specs.Reply4.{name_servers, echo, reply_options, reply4_bytes}

-- ---- what the server tested of a circuit's datagram

-- The datagram's message, whose option 82 names the circuit.
pub record IsOf (part : CircuitPart) (datagram : List ℕ) : Type 0 where
  pub message : MessageValue
  pub read : message_of datagram ≡ Ok message
  pub information : List ℕ
  pub there : look_up 82 message.options ≡ Some information
  pub suboptions : List (ℕ × List ℕ)
  pub are_read : suboptions_of information ≡ Ok suboptions
  pub named : is_named suboptions part ≡ true

passed : {A : Type 0} (b : Bool) (why : Discard) (behind : Result A Discard) (x : A) → cond b (Err why) behind ≡ Ok x → behind ≡ Ok x
passed true why behind x e = absurd cc
passed false why behind x e = e

abbrev index : ℕ → Result ℕ Discard
index c = Ok c

same : (d c : ℕ) → index d ≡ index c → d ≡ c
same d c e = cc

by_link : (d c : ℕ) (fault : Option Discard) → link_check d fault ≡ Ok c → d ≡ c
by_link d c None e = same d c e
by_link d c (Some why) e = absurd cc

module _ (topology : Topology) (c : ℕ) (part : CircuitPart) (at : slice_get topology.circuits c ≡ Some part) (source : Source) (datagram : List ℕ) where
  at_own : (m : MessageValue) (suboptions : List (ℕ × List ℕ)) (own : Option (ℕ × CircuitPart)) → relay_circuit topology source (look_up CIRCUIT_ID suboptions) ≡ own
      → circuit_check (link_fault4 m suboptions) own ≡ Ok c → is_named suboptions part ≡ true
  at_own m suboptions None found e = absurd cc
  at_own m suboptions (Some own) found e =
      let id = look_up CIRCUIT_ID suboptions in
      let index : own.0 ≡ c = by_link own.0 c (link_fault4 m suboptions own.1) e in
      let its = by_index topology source id (position (has_id id) topology.circuits) own refl found in
      let both : Some own.1 ≡ Some part = sym its.0 ∙ ap (slice_get topology.circuits) index ∙ at in
      let one : own.1 ≡ part = cc in
      subst (λ p. is_named suboptions p ≡ true) one its.1

  at_suboptions : (m : MessageValue) (information : List ℕ) (r : Result (List (ℕ × List ℕ)) SuboptFault) → message_of datagram ≡ Ok m → look_up 82 m.options ≡ Some information
      → suboptions_of information ≡ r → agent_check topology source m (Some r) ≡ Ok c → IsOf part datagram
  at_suboptions m information (Err fault) read there are e = absurd cc
  at_suboptions m information (Ok suboptions) read there are e = record {
    message = m;
    read = read;
    information = information;
    there = there;
    suboptions = suboptions;
    are_read = are;
    named = at_own m suboptions (relay_circuit topology source (look_up CIRCUIT_ID suboptions)) refl e;
  }

  at_agent : (m : MessageValue) (o : Option (List ℕ)) → message_of datagram ≡ Ok m → look_up 82 m.options ≡ o → agent_check topology source m (option_map suboptions_of o) ≡ Ok c → IsOf part datagram
  at_agent m None read there e = absurd cc
  at_agent m (Some information) read there e = at_suboptions m information (suboptions_of information) read there refl e

  at_message : (r : Result MessageValue MessageFault) → message_of datagram ≡ r → message_check topology source r ≡ Ok c → IsOf part datagram
  at_message (Err fault) read e = absurd cc
  at_message (Ok m) read e =
      let op = passed (not (m.header.op == 1)) _ _ c e in
      let giaddr = passed (is_unspecified m.header.giaddr) _ _ c op in
      at_agent m (look_up 82 m.options) read refl giaddr

  pub is_of : (now : ℕ) → addressee topology (delivery V4 source now datagram) ≡ Ok c → IsOf part datagram
  unfolding addressee
  is_of now e =
      let known = passed (not (is_relay topology source)) _ _ c e in
      let short = passed (nat_lt 1280 (length datagram)) _ _ c known in
      at_message (message_of datagram) refl short

-- ---- the reply

abbrev ok : List ℕ → Result (List ℕ) Discard
ok bytes = Ok bytes

-- These bytes are a reply to the message.
pub record IsReply (part : CircuitPart) (m : MessageValue) (b : Book) (bytes : List ℕ) : Type 0 where
  pub request : Request4
  pub reply : Reply4
  pub answer : (answer4 (pool4_of part) b.clock b.four request).answer ≡ Ok reply
  pub written : bytes ≡ reply4_bytes part m reply

by_answer : (part : CircuitPart) (m : MessageValue) (b : Book) (bytes : List ℕ) (request : Request4) (answer : Result Reply4 Discard)
    → (answer4 (pool4_of part) b.clock b.four request).answer ≡ answer → result_map_both (reply4_bytes part m) (λ why. why) answer ≡ Ok bytes → IsReply part m b bytes
by_answer part m b bytes request (Err why) is e = absurd cc
by_answer part m b bytes request (Ok reply) is e =
    let same : reply4_bytes part m reply ≡ bytes = same_bytes (reply4_bytes part m reply) bytes e in
    record { request = request; reply = reply; answer = is; written = sym same }
  where
    same_bytes : (x y : List ℕ) → ok x ≡ ok y → x ≡ y
    same_bytes x y h = cc

by_request : (part : CircuitPart) (m : MessageValue) (b : Book) (bytes : List ℕ) (request : Result Request4 Discard) → (request4_served part m b request).answer ≡ Ok bytes → IsReply part m b bytes
by_request part m b bytes (Err why) e = absurd cc
by_request part m b bytes (Ok request) e = by_answer part m b bytes request (answer4 (pool4_of part) b.clock b.four request).answer refl e

pub is_reply : (part : CircuitPart) (e : DeliveryValue) (bytes : List ℕ) (b : Book) (m : MessageValue) → V4 ≡ e.proto → message_of e.bytes ≡ Ok m → (served part e b).answer ≡ Ok bytes
    → IsReply part m (book_at e.moment b) bytes
unfolding served
is_reply part e bytes b m four read answered =
    let P : Proto → Type 0 = λ proto. (datagram_served part proto e.bytes (book_at e.moment b)).answer ≡ Ok bytes in
    by_request part m (book_at e.moment b) bytes (request4_in m) (subst (λ r. (message4_served part (book_at e.moment b) r).answer ≡ Ok bytes) read (subst P (sym four) answered))

-- the reply bears the request's option 82
last_is : (dns : List Addr4) (information : List ℕ) → look_up 82 (name_servers dns ++ echo (Some information)) ≡ Some information
last_is [] information = refl
last_is (address ∷ addresses) information = refl

echoed : (part : CircuitPart) (m : MessageValue) (information : List ℕ) → look_up 82 m.options ≡ Some information
    → look_up 82 (name_servers part.dns ++ echo (look_up 82 m.options)) ≡ Some information
echoed part m information there = ap (λ o. look_up 82 (name_servers part.dns ++ echo o)) there ∙ last_is part.dns information

pub bears : (part : CircuitPart) (m : MessageValue) (reply : Reply4) (information : List ℕ) → look_up 82 m.options ≡ Some information
    → look_up 82 (reply_options part m reply) ≡ Some information
bears part m (Offer address) information there = echoed part m information there
bears part m (Ack address) information there = echoed part m information there
bears part m Inform information there = echoed part m information there
bears part m Nak information there = ap (λ o. look_up 82 (echo o)) there
