use Rattle.std.proofs.Common.{sym, ap, ◌∙◌, Ok}
use Rattle.relay.proofs.Relay4Lemmas.{at_ok}
use Rattle.relay.proofs.Relay6Lemmas.{up6_too_long, up6_too_short, up6_within}
use Rattle.relay.proofs.up6.relay_up6.Goals as goal

pub returns-then-frame-gt-MAX_FRAME-clause-err : goal.returns-then-frame-gt-MAX_FRAME-clause-err
returns-then-frame-gt-MAX_FRAME-clause-err c = up6_too_long c.args.part.now c.args.frame.now c.if-frame-gt-MAX_FRAME.true

pub returns-then-frame-lt-MIN_FRAME-clause-err : goal.returns-then-frame-lt-MIN_FRAME-clause-err
returns-then-frame-lt-MIN_FRAME-clause-err c =
    up6_too_short c.args.part.now c.args.frame.now c.if-frame-gt-MAX_FRAME.false c.if-frame-lt-MIN_FRAME.true

pub returns-in-Some-clause-err : goal.returns-in-Some-clause-err
returns-in-Some-clause-err c =
    up6_within c.args.part.now c.args.frame.now c.split_at.result.0.now c.split_at.result.1.now c.if-frame-gt-MAX_FRAME.false c.if-frame-lt-MIN_FRAME.false
    c.split_at.ensures.front c.split_at.ensures.back
    ∙ c.in-Some.ensures.some c.args.part.now c.split_at.result.0.now

pub returns-clause-ok : goal.returns-clause-ok
returns-clause-ok c =
    let bytes = at_ok c.write_relay_forward-written.result c.write_relay_forward-written.ensures.room c.write_relay_forward-written.ensures.ok in
    up6_within c.args.part.now c.args.frame.now c.split_at.result.0.now c.split_at.result.1.now c.if-frame-gt-MAX_FRAME.false c.if-frame-lt-MIN_FRAME.false
    c.split_at.ensures.front c.split_at.ensures.back
    ∙ c.in_default.ensures.none c.args.part.now c.split_at.result.0.now
    ∙ ap Ok (sym bytes)
