-- What the relay sends up for a circuit reads again at the server, and is that circuit's there.
use Rattle.std.proofs.Common.{◌≡◌, ◌≢◌, ℕ, ◌+◌, ◌≤◌, Bool, true, false, not, cond, eqb, nat_le, is_some, List, [], ◌∷◌, ◌++◌, length, take, drop, Option, Some, None, Result, Ok, Err, refl, sym, ap, ◌∙◌, arith}
use Rattle.std.specs.Prelude.{slice_get}
use Rattle.std.specs.List.{position}
use Rattle.std.proofs.lemmas.Bool.{eq-eqb, eqb-true, eqb-false, ltb-false}
use Rattle.std.proofs.lemmas.List.{append-nil, length-append}
use Rattle.types.specs.Addr.{is_unspecified}
use Rattle.types.specs.Delivery.{delivery}
use Rattle.types.specs.declared.dest.Proto.{Proto}
use Rattle.types.specs.declared.dest.Proto.TheVariants.{V4, V6}
use Rattle.types.specs.declared.discard.Discard.{Discard}
use Rattle.types.specs.declared.discard.Discard.TheVariants.{Hops, WrongType}
use Rattle.wire.specs.Bytes.{AreBytes}
use Rattle.v4_options.specs.Codes.{PAD, END, REQUESTED_ADDRESS, OPTION_OVERLOAD, MESSAGE_TYPE, SERVER_IDENTIFIER, RELAY_AGENT_INFORMATION, CIRCUIT_ID, SERVER_IDENTIFIER_OVERRIDE}
use Rattle.v4_options.specs.Spelling.{option, spelling, look_up, AreOptions}
use Rattle.v4_options.specs.Subreading.{suboptions_of}
use Rattle.v4_options.proofs.Left.{AreOptions-append, look_up-append_same, look_up-append_other, spelling-append}
use Rattle.v4_options.proofs.Subexact as suboptions
use Rattle.v4_message.specs.declared.fault.MessageFault.{MessageFault}
use Rattle.v4_message.specs.Header.{IsSized}
use Rattle.v4_message.specs.Reading.{message_of, kind_in}
use Rattle.v4_message.specs.Spelling.{MessageValue, IsValid, Spells, message_bytes}
use Rattle.v4_message.proofs.Exact as messages
use Rattle.v4_message.proofs.Lengths.{length-message_bytes, length-spelled_message}
use Rattle.config.specs.CircuitPart.{CircuitPart, IsPart}
use Rattle.config.specs.Topology.{Topology, is_relay, serves}
use Rattle.config.proofs.TopologyLemmas.{bytes_eq_self, same_source_self}
use Rattle.requests.specs.Addressee.{addressee}
use Rattle.requests.specs.Addressee4.{message_check}
use Rattle.requests.proofs.AddresseeLemmas.{within}
use Rattle.relay.specs.Up4.{agent_information, with_agent_information, is_from_server, message_relayed_up, relayed_up4}
use Rattle.relay.specs.Down4.{is_named}
use Rattle.relay.specs.Up6.{relay_forward, relayed_up6}
use Rattle.v6_message.specs.RelayReading.{relay_of}
use Rattle.relay.specs.Relays.{relayed_up}
use Rattle.relay.proofs.AllLemmas.{named_first}
use Rattle.world.proofs.AddressedLemmas6.{forward_is_addressed}

-- ---- what the relay tested

-- The message that a datagram for the server was made of.
record IsSentUp (part : CircuitPart) (frame datagram : List ℕ) : Type 0 where
  message : MessageValue
  short : length frame ≤ 1024
  read : message_of frame ≡ Ok message
  request : message.header.op ≡ 1
  new : look_up RELAY_AGENT_INFORMATION message.options ≡ None
  bytes : datagram ≡ message_bytes (with_agent_information part message)

abbrev ok : List ℕ → Result (List ℕ) Discard
ok datagram = Ok datagram

-- A test that didn't discard was not met.
not_discarded : (b : Bool) (why : Discard) (behind : Result (List ℕ) Discard) (datagram : List ℕ) → cond b (Err why) behind ≡ Ok datagram → (b ≡ false) × (behind ≡ Ok datagram)
not_discarded true why behind datagram e = absurd cc
not_discarded false why behind datagram e = (refl, e)

not_false : (b : Bool) → not b ≡ false → b ≡ true
not_false true e = refl
not_false false e = absurd cc

none_found : (found : Option (List ℕ)) → is_some found ≡ false → found ≡ None
none_found None e = refl
none_found (Some value) e = absurd cc

same_bytes : (a b : List ℕ) (same : ok a ≡ ok b) → a ≡ b
same_bytes a b same = cc

by_read : (part : CircuitPart) (frame datagram : List ℕ) (read : Result MessageValue MessageFault)
    → length frame ≤ 1024 → message_of frame ≡ read → message_relayed_up part read ≡ ok datagram → IsSentUp part frame datagram
by_read part frame datagram (Err fault) short is e = absurd cc
by_read part frame datagram (Ok m) short is e =
    let op = not_discarded _ _ _ datagram e in
    let giaddr = not_discarded _ _ _ datagram op.1 in
    let option82 = not_discarded _ _ _ datagram giaddr.1 in
    let hops = not_discarded (nat_le 16 m.header.hops) Hops _ datagram option82.1 in
    let kind = not_discarded (is_from_server (kind_in (look_up MESSAGE_TYPE m.options))) WrongType _ datagram hops.1 in
    record {
      message = m;
      short = short;
      read = is;
      request = eqb-true m.header.op 1 (not_false (eqb m.header.op 1) op.0);
      new = none_found (look_up RELAY_AGENT_INFORMATION m.options) option82.0;
      bytes = same_bytes datagram (message_bytes (with_agent_information part m)) (sym kind.1);
    }

is_sent_up : (part : CircuitPart) (frame datagram : List ℕ) → relayed_up4 part frame ≡ Ok datagram → IsSentUp part frame datagram
unfolding relayed_up4
is_sent_up part frame datagram e =
    let size = not_discarded _ _ _ datagram e in
    by_read part frame datagram (message_of frame) (ltb-false 1024 (length frame) size.0) refl size.1

-- ---- the message with the agent information is one

-- What option 82 of a circuit's messages holds.
abbrev agent_suboptions : CircuitPart → List (ℕ × List ℕ)
agent_suboptions part = (CIRCUIT_ID, part.id) ∷ (SERVER_IDENTIFIER_OVERRIDE, part.gateway4.0) ∷ []

agent_information_is : (part : CircuitPart) → agent_information part ≡ spelling (agent_suboptions part)
agent_information_is part =
    ap (λ (t : List ℕ). option CIRCUIT_ID part.id ++ t) (sym (append-nil (option SERVER_IDENTIFIER_OVERRIDE part.gateway4.0)))

agent_is_read : (part : CircuitPart) → suboptions_of (agent_information part) ≡ Ok (agent_suboptions part)
agent_is_read part = ap suboptions_of (agent_information_is part) ∙ suboptions.written_is_read (agent_suboptions part) (refl, (refl, tt))

is_sized : (part : CircuitPart) (m : MessageValue) → IsSized m.header → length part.gateway4.0 ≡ 4 → IsSized (with_agent_information part m).header
is_sized part m s size = record {
  xid = s.xid;
  secs = s.secs;
  flags = s.flags;
  ciaddr = s.ciaddr;
  yiaddr = s.yiaddr;
  siaddr = s.siaddr;
  giaddr = size;
  chaddr = s.chaddr;
  sname = s.sname;
  file = s.file;
}

-- Each other option is as it was.
other_option : (part : CircuitPart) (m : MessageValue) (code : ℕ) → code ≢ RELAY_AGENT_INFORMATION
    → look_up code (with_agent_information part m).options ≡ look_up code m.options
other_option part m code ne = look_up-append_other m.options RELAY_AGENT_INFORMATION code (agent_information part) ne

is_valid : (part : CircuitPart) (m : MessageValue) → IsValid m → IsValid (with_agent_information part m)
is_valid part m v =
    let overload = other_option part m OPTION_OVERLOAD (eqb-false OPTION_OVERLOAD RELAY_AGENT_INFORMATION refl) in
    let requested = other_option part m REQUESTED_ADDRESS (eqb-false REQUESTED_ADDRESS RELAY_AGENT_INFORMATION refl) in
    let server = other_option part m SERVER_IDENTIFIER (eqb-false SERVER_IDENTIFIER RELAY_AGENT_INFORMATION refl) in
    let kind = other_option part m MESSAGE_TYPE (eqb-false MESSAGE_TYPE RELAY_AGENT_INFORMATION refl) in
    record {
      op = v.op;
      kind = (v.kind.0, kind ∙ v.kind.1, v.kind.2, v.kind.3);
      allowed = record { overload = overload ∙ v.allowed.overload; requested = rw requested v.allowed.requested; server = rw server v.allowed.server };
    }

are_options : (part : CircuitPart) (m : MessageValue) → AreOptions m.options → look_up RELAY_AGENT_INFORMATION m.options ≡ None
    → AreOptions (with_agent_information part m).options
are_options part m distinct new =
    AreOptions-append m.options RELAY_AGENT_INFORMATION (agent_information part) (eqb-false RELAY_AGENT_INFORMATION PAD refl) (eqb-false RELAY_AGENT_INFORMATION END refl) new distinct

-- A message that was read, and is written with the agent information, reads again.
is_read_again : (part : CircuitPart) (frame : List ℕ) (m : MessageValue)
    → Spells frame m → look_up RELAY_AGENT_INFORMATION m.options ≡ None → length part.gateway4.0 ≡ 4
    → message_of (message_bytes (with_agent_information part m)) ≡ Ok (with_agent_information part m)
is_read_again part frame m s new size =
    ap message_of (sym (append-nil (message_bytes (with_agent_information part m))))
    ∙ messages.written_is_read (with_agent_information part m) [] (is_sized part m s.sized size) (is_valid part m s.valid) (are_options part m (messages.distinct frame m s) new)

-- ---- its length

length-agent_information : (part : CircuitPart) → length (agent_information part) ≡ 4 + length part.id + length part.gateway4.0
length-agent_information part = omega (arith, length-append part.id (option SERVER_IDENTIFIER_OVERRIDE part.gateway4.0))

length-option82 : (part : CircuitPart) (m : MessageValue)
    → length (spelling (with_agent_information part m).options) ≡ length (spelling m.options) + 6 + length part.id + length part.gateway4.0
length-option82 part m =
    let added : List (ℕ × List ℕ) = (RELAY_AGENT_INFORMATION, agent_information part) ∷ [] in
    omega (arith, ap length (spelling-append m.options added), length-append (spelling m.options) (spelling added), length-append (agent_information part) [], length-agent_information part)

-- 1024 bytes, and 42 at most for option 82
is_short : (part : CircuitPart) (frame : List ℕ) (m : MessageValue) → IsPart part → Spells frame m → length frame ≤ 1024
    → length (message_bytes (with_agent_information part m)) ≤ 1280
is_short part frame m p s short =
    omega (arith, length-spelled_message frame m s, length-message_bytes m s.sized, length-message_bytes (with_agent_information part m) (is_sized part m s.sized p.gateway4_size), length-option82 part m, p.id.most, p.gateway4_size)

-- ---- its circuit

-- Where no other circuit has its id, a circuit's messages pass the server's tests.
module _ (topology : Topology) (c : ℕ) (part : CircuitPart) (there : slice_get topology.circuits c ≡ Some part) (served : serves topology c ≡ true)
    (alone : (d : ℕ) (other : CircuitPart) → slice_get topology.circuits d ≡ Some other → other.id ≡ part.id → d ≡ c) where
  is_found : position (is_named (agent_suboptions part)) topology.circuits ≡ Some c
  is_found = named_first topology.circuits c part (agent_suboptions part) there alone (bytes_eq_self part.id)

  is_checked : (m : MessageValue) → m.header.op ≡ 1 → look_up RELAY_AGENT_INFORMATION m.options ≡ None
      → is_unspecified part.gateway4.0 ≡ false → message_check topology part.relay (Ok (with_agent_information part m)) ≡ Ok c
  is_checked m request new gateway =
      rw (eq-eqb m.header.op 1 request, gateway, look_up-append_same m.options RELAY_AGENT_INFORMATION (agent_information part) new, agent_is_read part, is_found, there, same_source_self part.relay, served, bytes_eq_self part.gateway4.0) refl

  message_is_addressed : (now : ℕ) (frame datagram : List ℕ) → is_relay topology part.relay ≡ true → IsPart part → AreBytes frame
      → IsSentUp part frame datagram → addressee topology (delivery V4 part.relay now datagram) ≡ Ok c
  message_is_addressed now frame datagram known p fits sent =
      let m = sent.message in
      let s : Spells frame m = (messages.spelled frame fits m).0 sent.read in
      within topology (delivery V4 part.relay now datagram) known (rw sent.bytes (is_short part frame m p s sent.short))
      ∙ ap (message_check topology part.relay) (ap message_of sent.bytes ∙ is_read_again part frame m s sent.new p.gateway4_size)
      ∙ is_checked m sent.request sent.new p.gateway4

  -- What the relay sends up for a circuit is that circuit's at the server. Of a DHCPv6 frame it has to read
  -- back as the Relay-forward.
  pub relayed_is_addressed : (proto : Proto) (now : ℕ) (frame datagram : List ℕ) → is_relay topology part.relay ≡ true → IsPart part → AreBytes frame
      → (relayed_up6 part frame ≡ Ok datagram → relay_of datagram ≡ Ok (relay_forward part (take 16 frame) (drop 16 frame)))
      → relayed_up part proto frame ≡ Ok datagram → addressee topology (delivery proto part.relay now datagram) ≡ Ok c
  relayed_is_addressed V4 now frame datagram known p fits reads e = message_is_addressed now frame datagram known p fits (is_sent_up part frame datagram e)
  relayed_is_addressed V6 now frame datagram known p fits reads e = forward_is_addressed topology c part there served alone now frame datagram known p e (reads e)
