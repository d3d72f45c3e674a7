use Rattle.std.proofs.Common.{sym, ap, ◌∙◌, arith, rules}
use Rattle.v4_message.proofs.Lengths.{length-spelled_message}
use Rattle.relay.specs.Down4.{message_in_reply}
use Rattle.relay.proofs.Relay4Lemmas.{reply_too_long, reply_within}
use Rattle.relay.proofs.down4.read_reply.Goals as goal

pub returns-then-datagram-gt-MAX_DATAGRAM-clause-value :
    goal.returns-then-datagram-gt-MAX_DATAGRAM-clause-value
returns-then-datagram-gt-MAX_DATAGRAM-clause-value c = sym (reply_too_long c.args.datagram.now c.if-datagram-gt-MAX_DATAGRAM.true)

pub returns-in_default-clause-value : goal.returns-in_default-clause-value
returns-in_default-clause-value c =
    sym (reply_within c.args.datagram.now c.if-datagram-gt-MAX_DATAGRAM.false ∙ ap message_in_reply (sym c.read.ensures.exact ∙ c.in_default.is))

pub returns-then-op-ne-OP_REPLY-clause-value : goal.returns-then-op-ne-OP_REPLY-clause-value
returns-then-op-ne-OP_REPLY-clause-value c =
    let is = reply_within c.args.datagram.now c.if-datagram-gt-MAX_DATAGRAM.false ∙ ap message_in_reply (sym c.read.ensures.exact ∙ c.in-Ok.is) in
    sym (is ∙ search rules)

pub returns-clause-value : goal.returns-clause-value
returns-clause-value c =
    let is = reply_within c.args.datagram.now c.if-datagram-gt-MAX_DATAGRAM.false ∙ ap message_in_reply (sym c.read.ensures.exact ∙ c.in-Ok.is) in
    sym (is ∙ search rules)

pub returns-clause-fits : goal.returns-clause-fits
returns-clause-fits c =
    omega (arith, length-spelled_message c.args.datagram.now c.in-Ok.reply ((c.read.ensures.spelled c.in-Ok.reply).0 c.in-Ok.is))
