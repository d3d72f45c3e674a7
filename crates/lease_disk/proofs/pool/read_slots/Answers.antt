use Rattle.std.proofs.Common.{Some, sym, ◌∙◌}
use Rattle.lease_disk.specs.Layout.{with_halves}
use Rattle.lease_disk.proofs.Books.{no_four, no_six, book_whole, book_twice4, book_twice6, book_entries}
use Rattle.lease_disk.proofs.pool.read_slots.Goals as goal

pub returns-in_err-four-clause-slots : goal.returns-in_err-four-clause-slots
returns-in_err-four-clause-slots c = c.from_residual.ensures ∙ no_four c.args.counts c.args.halves.now c.args.clock c.in_err-four.ensures

pub returns-in_err-six-clause-slots : goal.returns-in_err-six-clause-slots
returns-in_err-six-clause-slots c = c.from_residual-in_err-six.ensures ∙ no_six c.args.counts c.args.halves.now c.args.clock c.in_err-six.ensures

pub returns-then-not-has_no_twins-clause-slots : goal.returns-then-not-has_no_twins-clause-slots
returns-then-not-has_no_twins-clause-slots c =
    book_twice4 c.args.counts c.args.halves.now c.args.clock c.in_ok-four.four c.in_ok-six.six c.later-clock.result _ _ c.contents_at-four.result c.contents_at-six.result
    c.in_ok-four.ensures c.in_ok-six.ensures c.latest.ensures c.latest-2.ensures c.later-clock.ensures c.contents_at-four.ensures c.contents_at-six.ensures
    (sym c.if-not-has_no_twins.true ∙ c.has_no_twins.ensures)

pub returns-then-not-has_no_twins-2-clause-slots : goal.returns-then-not-has_no_twins-2-clause-slots
returns-then-not-has_no_twins-2-clause-slots c =
    book_twice6 c.args.counts c.args.halves.now c.args.clock c.in_ok-four.four c.in_ok-six.six c.later-clock.result _ _ c.contents_at-four.result c.contents_at-six.result
    c.in_ok-four.ensures c.in_ok-six.ensures c.latest.ensures c.latest-2.ensures c.later-clock.ensures c.contents_at-four.ensures c.contents_at-six.ensures
    (sym c.if-not-has_no_twins-2.true ∙ c.has_no_twins-2.ensures)

pub returns-clause-slots : goal.returns-clause-slots
returns-clause-slots c =
    book_whole c.args.counts c.args.halves.now c.args.clock c.in_ok-four.four c.in_ok-six.six c.later-clock.result _ _ c.contents_at-four.result c.contents_at-six.result
    c.in_ok-four.ensures c.in_ok-six.ensures c.latest.ensures c.latest-2.ensures c.later-clock.ensures c.contents_at-four.ensures c.contents_at-six.ensures
    (sym c.if-not-has_no_twins.false ∙ c.has_no_twins.ensures) (sym c.if-not-has_no_twins-2.false ∙ c.has_no_twins-2.ensures)

pub returns-clause-book : goal.returns-clause-book
returns-clause-book c = book_entries c.args.counts (Some c.args.clock) (with_halves c.args.halves.now) _ (sym (returns-clause-slots c))
