use Rattle.std.proofs.Common.{◌≡◌, ℕ, List, [], ◌∷◌, ◌++◌, refl, sym, ap, subst, ◌∙◌, append_assoc, append-nil}
use Rattle.v6_options.specs.Spelling.{option, spelling}
use Rattle.v6_message.specs.Message.{message_bytes}
use Rattle.v6_message.specs.Relay.{SpellsRelay, relay_header}
use Rattle.v6_message.specs.RelayReading.{relay_of}
use Rattle.replies.specs.Reply6.{IsReplyTo, relay_reply, reply_message, reply6_bytes}
use Rattle.replies.proofs.reply6.write6.Goals as goal

-- A circuit id and a message, appended one after the other.
last-append : (out id message : List ℕ) → (out ++ option 18 id) ++ option 9 message ≡ out ++ spelling ((18, id) ∷ (9, message) ∷ [])
last-append out id message = rw (append-nil (option 9 message)) (append_assoc out (option 18 id) (option 9 message))

pub returns-clause-bytes : goal.returns-clause-bytes
unfolding reply6_bytes
returns-clause-bytes c =
    let r = c.args.request.now in
    let head = relay_header 13 r.hop_count r.link_address r.peer_address in
    let id = c.args.part.now.id in
    let reply = message_bytes (reply_message c.args.part.now c.args.message.now c.args.client.now c.args.reply.now) in
    let front : c.put.new.out ≡ head ++ option 18 id = rw (c.put.ensures.bytes, c.as_bytes.ensures.value, c.id.ensures, c.put_header.ensures.bytes) refl in
    c.put_message.ensures.bytes ∙ ap (λ (t : List ℕ). t ++ option 9 reply) front ∙ last-append head id reply

pub returns-clause-spelled : goal.returns-clause-spelled
returns-clause-spelled c =
    let k = c.keeps_limits.ensures in
    let is : IsReplyTo c.args.message.now c.args.client.now c.args.reply.now = record { id = k.id; duid = k.duid; ia = c.put_message.ensures.whole } in
    subst (λ (bytes : List ℕ). SpellsRelay bytes (relay_reply c.args.part.now c.args.request.now c.args.message.now c.args.client.now c.args.reply.now)) (sym (returns-clause-bytes c))
    (c.reply6_is_read.ensures.spelled c.args.part.now c.args.request.now c.args.message.now c.args.client.now c.args.reply.now k.sound k.link k.peer is)

pub returns-clause-again : goal.returns-clause-again
returns-clause-again c =
    let k = c.keeps_limits.ensures in
    let is : IsReplyTo c.args.message.now c.args.client.now c.args.reply.now = record { id = k.id; duid = k.duid; ia = c.put_message.ensures.whole } in
    ap relay_of (returns-clause-bytes c) ∙ c.reply6_is_read.ensures.read c.args.part.now c.args.request.now c.args.message.now c.args.client.now c.args.reply.now k.sound k.link k.peer is

pub returns-clause-inside : goal.returns-clause-inside
returns-clause-inside c =
    let k = c.keeps_limits.ensures in
    let is : IsReplyTo c.args.message.now c.args.client.now c.args.reply.now = record { id = k.id; duid = k.duid; ia = c.put_message.ensures.whole } in
    c.reply6_is_read.ensures.inside c.args.part.now c.args.message.now c.args.client.now c.args.reply.now k.sound is

pub returns-clause-inside_again : goal.returns-clause-inside_again
returns-clause-inside_again c =
    let k = c.keeps_limits.ensures in
    let is : IsReplyTo c.args.message.now c.args.client.now c.args.reply.now = record { id = k.id; duid = k.duid; ia = c.put_message.ensures.whole } in
    c.reply6_is_read.ensures.inside_again c.args.part.now c.args.message.now c.args.client.now c.args.reply.now k.sound is
