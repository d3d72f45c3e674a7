use Rattle.std.proofs.Common.{sym, ap, ◌∙◌, rules}
use Rattle.relay.specs.Down6.{relay_in_reply}
use Rattle.relay.proofs.Relay6Lemmas.{reply6_too_long, reply6_within}
use Rattle.relay.proofs.down6.read_reply6.Goals as goal

pub returns-then-datagram-gt-MAX_DATAGRAM-clause-value :
    goal.returns-then-datagram-gt-MAX_DATAGRAM-clause-value
returns-then-datagram-gt-MAX_DATAGRAM-clause-value c = sym (reply6_too_long c.args.datagram.now c.if-datagram-gt-MAX_DATAGRAM.true)

pub returns-in_default-clause-value : goal.returns-in_default-clause-value
returns-in_default-clause-value c =
    sym (reply6_within c.args.datagram.now c.if-datagram-gt-MAX_DATAGRAM.false ∙ ap relay_in_reply (sym c.read.ensures.exact ∙ c.in_default.is))

pub returns-then-kind-ne-RELAY_REPLY-clause-value : goal.returns-then-kind-ne-RELAY_REPLY-clause-value
returns-then-kind-ne-RELAY_REPLY-clause-value c =
    let is = reply6_within c.args.datagram.now c.if-datagram-gt-MAX_DATAGRAM.false ∙ ap relay_in_reply (sym c.read.ensures.exact ∙ c.in-Ok.is) in
    sym (is ∙ search rules)

pub returns-clause-value : goal.returns-clause-value
returns-clause-value c =
    let is = reply6_within c.args.datagram.now c.if-datagram-gt-MAX_DATAGRAM.false ∙ ap relay_in_reply (sym c.read.ensures.exact ∙ c.in-Ok.is) in
    sym (is ∙ search rules)
