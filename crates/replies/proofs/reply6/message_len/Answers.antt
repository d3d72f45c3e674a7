use Rattle.std.proofs.Common.{◌≡◌, length, ap, ◌∙◌, rules, arith, length-append}
use Rattle.v6_options.specs.Spelling.{spelling}
use Rattle.v6_message.proofs.Lists.{spelling-append}
use Rattle.replies.specs.Reply6.{ia_options, status_options}
use Rattle.replies.proofs.ReadBack6.{reply_length}
use Rattle.replies.proofs.reply6.message_len.Goals as goal
use Rattle.replies.proofs.reply6.message_len.Goals.{in-None, in-Some}

pub returns-clause-value : goal.returns-clause-value
returns-clause-value c = λ message id is.
    let status = status_options c.args.reply.now.status in
    let ia = ia_options c.args.part.now.lease c.args.client.now.iaid c.args.reply.now.ia in
    let told : length (spelling status) ≡ c.match-reply.status = elim c.match-reply.branch [ in-None w ↦ search rules | in-Some w ↦ search rules ] in
    let both = ap length (spelling-append status ia) ∙ length-append (spelling status) (spelling ia) in
    let whole = reply_length c.args.part.now message c.args.client.now c.args.reply.now id in
    let inside = c.ia_len.ensures.value c.args.part.now.lease c.args.client.now.iaid is in
    omega (arith, whole, both, told, inside, ap length c.duid.ensures.value, ap length c.duid-2.ensures.value)
