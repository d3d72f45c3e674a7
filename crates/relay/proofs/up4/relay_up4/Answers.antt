use Rattle.std.proofs.Common.{◌≤◌, length, sym, ap, ◌∙◌, Ok, arith}
use Rattle.std.specs.Prelude.{IsOk}
use Rattle.v4_message.specs.Spelling.{message_bytes}
use Rattle.v4_message.proofs.Lengths.{length-spelled_message}
use Rattle.relay.specs.Up4.{message_relayed_up}
use Rattle.relay.proofs.Relay4Lemmas.{up_too_long, up_within, at_ok}
use Rattle.relay.proofs.up4.relay_up4.Goals as goal

pub returns-then-frame-gt-MAX_FRAME-clause-err : goal.returns-then-frame-gt-MAX_FRAME-clause-err
returns-then-frame-gt-MAX_FRAME-clause-err c = up_too_long c.args.part.now c.args.frame.now c.if-frame-gt-MAX_FRAME.true

pub returns-in_default-clause-err : goal.returns-in_default-clause-err
returns-in_default-clause-err c =
    up_within c.args.part.now c.args.frame.now c.if-frame-gt-MAX_FRAME.false
    ∙ ap (message_relayed_up c.args.part.now) (sym c.read.ensures.exact ∙ c.in_default.is)

pub returns-in-Some-clause-err : goal.returns-in-Some-clause-err
returns-in-Some-clause-err c =
    up_within c.args.part.now c.args.frame.now c.if-frame-gt-MAX_FRAME.false
    ∙ ap (message_relayed_up c.args.part.now) (sym c.read.ensures.exact ∙ c.in-Ok.is)
    ∙ c.in-Some.ensures.some c.args.part.now

pub prove-unreachable-requires : goal.prove-unreachable-requires
prove-unreachable-requires c =
    let shorter = length-spelled_message c.args.frame.now c.in-Ok.message ((c.read.ensures.spelled c.in-Ok.message).0 c.in-Ok.is) in
    let fits : length (message_bytes c.in-Ok.message) ≤ 1024 = omega arith in
    let room : IsOk c.write_with_agent_information-written.result = c.write_with_agent_information-written.ensures.room fits in
    absurd (cc (room, c.is_ok.ensures.value, c.if-prove.true))

pub returns-clause-ok : goal.returns-clause-ok
returns-clause-ok c =
    let bytes = at_ok c.write_with_agent_information-written.result (sym c.is_ok.ensures.value ∙ c.if-prove.false) c.write_with_agent_information-written.ensures.ok in
    up_within c.args.part.now c.args.frame.now c.if-frame-gt-MAX_FRAME.false
    ∙ ap (message_relayed_up c.args.part.now) (sym c.read.ensures.exact ∙ c.in-Ok.is)
    ∙ c.in_default-refusal.ensures.none c.args.part.now
    ∙ ap Ok (sym bytes)
