use Rattle.std.proofs.Common.{sym, ap, ◌∙◌, ◌+◌, ◌*◌, drop}
use Rattle.lab_text.specs.Fields.{digits_after}
use Rattle.lab_text.proofs.NumberLemmas.{digit_next, no_digit, too_great, all_digits}
use Rattle.lab_text.proofs.digits.number.Goals as goal

pub returns-then-not-is_ascii_digit-clause-value : goal.returns-then-not-is_ascii_digit-clause-value
returns-then-not-is_ascii_digit-clause-value c =
    no_digit c.args.most c.digits.number c.args.text.now c.digits.digit-index c.digits-test.true
    (sym c.is_ascii_digit.ensures.value ∙ c.if-not-is_ascii_digit.true) (sym c.lacks_first.ensures ∙ c.if-lacks_first.false) c.digits.invariant.rest

pub returns-then-number-most-clause-value : goal.returns-then-number-most-clause-value
returns-then-number-most-clause-value c =
    let text = c.args.text.now in
    let more = digit_next c.digits.number text c.digits.digit-index c.digits-test.true (sym c.is_ascii_digit.ensures.value ∙ c.if-not-is_ascii_digit.false) in
    too_great c.args.most (10 * c.digits.number + c.from.result) text (c.digits.digit-index + 1) c.if-number-most.true
    (sym c.lacks_first.ensures ∙ c.if-lacks_first.false)
    (ap (λ n. digits_after (10 * c.digits.number + n) (drop (c.digits.digit-index + 1) text)) c.from.ensures ∙ more ∙ c.digits.invariant.rest)

pub digits-preserved : goal.digits-preserved
digits-preserved c =
    let text = c.args.text.now in
    let more = digit_next c.digits.number text c.digits.digit-index c.digits-test.true (sym c.is_ascii_digit.ensures.value ∙ c.if-not-is_ascii_digit.false) in
    record {
      rest = ap (λ n. digits_after (10 * c.digits.number + n) (drop (c.digits.digit-index + 1) text)) c.from.ensures ∙ more ∙ c.digits.invariant.rest;
      within = c.if-number-most.false;
    }

pub returns-clause-value : goal.returns-clause-value
returns-clause-value c =
    all_digits c.args.most c.digits.number c.args.text.now c.digits.digit-index c.digits-test.false c.digits.invariant.within
    (sym c.lacks_first.ensures ∙ c.if-lacks_first.false) c.digits.invariant.rest
