use Rattle.std.proofs.Common.{◌≡◌, ℕ, ◌+◌, ◌≤◌, List, [], ◌∷◌, length, refl, sym, ap, subst, ◌∙◌, arith, length-append}
use Rattle.types.specs.Key6.{Key6Value}
use Rattle.exchange.specs.declared.request6.Reply6.{Reply6}
use Rattle.v6_options.specs.Spelling.{option, spelling, AreOptions}
use Rattle.v6_message.specs.Message.{MessageValue, message_bytes}
use Rattle.v6_message.specs.Relay.{RelayValue, SpellsRelay, relay_bytes, relay_header}
use Rattle.v6_message.specs.RelayReading.{relay_of}
use Rattle.v6_message.proofs.Allowed.{relay_allowed}
use Rattle.config.specs.CircuitPart.{CircuitPart, IsPart}
use Rattle.replies.specs.Reply6.{IsReplyTo, reply_message, relay_reply, reply6_bytes}
use Rattle.replies.proofs.ReadBack6.{reply_options_are, reply_allowed, reply_spelled, reply_size, reply_counted}
use Rattle.replies.proofs.laws.reply6_is_read.Goals as goal

-- an interface id, and the message that follows it
abbrev last : List ℕ → List ℕ → List (ℕ × List ℕ)
last id message = (18, id) ∷ (9, message) ∷ []

last_are : (id message : List ℕ) → length id ≤ 32 → length message ≤ 434 → AreOptions (last id message)
last_are id message few most = (omega arith, omega (arith, few), (omega arith, omega (arith, most), tt))

last_size : (id message : List ℕ) → length (spelling (last id message)) ≡ 8 + length id + length message
last_size id message =
    let all : length (spelling (last id message)) ≡ length (option 18 id) + length (spelling ((9, message) ∷ [])) = length-append (option 18 id) (spelling ((9, message) ∷ [])) in
    let end : length (spelling ((9, message) ∷ [])) ≡ length (option 9 message) + 0 = length-append (option 9 message) [] in
    omega (arith, all, end)

bytes_are : (part : CircuitPart) (request : RelayValue) (message : MessageValue) (client : Key6Value) (reply : Reply6)
    → reply6_bytes part request message client reply ≡ relay_bytes (relay_reply part request message client reply)
unfolding reply6_bytes
bytes_are part request message client reply = refl

module _ (part : CircuitPart) (request : RelayValue) (message : MessageValue) (client : Key6Value) (reply : Reply6)
    (sound : IsPart part) (link : length request.link_address ≡ 16) (peer : length request.peer_address ≡ 16) (is : IsReplyTo message client reply) where
  abbrev inside : List ℕ
  inside = message_bytes (reply_message part message client reply)

  small : length inside ≤ 434
  small = reply_size part message client reply sound.most_duid is

  options : AreOptions (last part.id inside)
  options = last_are part.id inside sound.id.most small

  short : length (reply6_bytes part request message client reply) ≤ 508
  short =
      let head = relay_header 13 request.hop_count request.link_address request.peer_address in
      let all : length (relay_bytes (relay_reply part request message client reply)) ≡ length head + length (spelling (last part.id inside)) = length-append head (spelling (last part.id inside)) in
      let front = length-append request.link_address request.peer_address in
      let bytes = ap length (bytes_are part request message client reply) in
      omega (arith, bytes, all, front, link, peer, last_size part.id inside, sound.id.most, small)

pub returns : goal.returns
returns c = record {
  read = λ part request message client reply sound link peer is.
      ap relay_of (bytes_are part request message client reply)
      ∙ c.written_relay_is_read.ensures.read (relay_reply part request message client reply) link peer (options part request message client reply sound link peer is)
      (relay_allowed (last part.id (message_bytes (reply_message part message client reply))) (omega arith) (omega arith));
  spelled = λ part request message client reply sound link peer is.
      let m = relay_reply part request message client reply in
      subst (λ (bytes : List ℕ). SpellsRelay bytes m) (sym (bytes_are part request message client reply))
      (c.written_relay_is_read.ensures.spelled m link peer (options part request message client reply sound link peer is)
      (relay_allowed (last part.id (message_bytes (reply_message part message client reply))) (omega arith) (omega arith)));
  fits = λ part request message client reply sound link peer is. short part request message client reply sound link peer is;
  interface = λ part request message client reply. refl;
  message = λ part request message client reply. refl;
  inside = λ part message client reply sound is. reply_spelled part message client reply sound.most_duid is;
  inside_again = λ part message client reply sound is.
      c.written_message_is_read.ensures.counts (reply_message part message client reply) is.id (reply_options_are part message client reply sound.most_duid is) (reply_allowed part message client reply sound.most_duid is)
      ∙ reply_counted part message client reply is.ia;
}
