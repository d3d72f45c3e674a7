use Rattle.std.proofs.Common.{◌/◌, arith}
use Rattle.timers.proofs.RowLemmas.{least_there, least_at_most, among_row, place_shown}
use Rattle.timers.specs.declared.rows.TheConstants.{ROW}
use Rattle.timers.proofs.rows.Rows.least_below.Goals as goal

pub returns-in_err-row-clause-none : goal.returns-in_err-row-clause-none
returns-in_err-row-clause-none c = rw c.from_residual.ensures (λ i low.
    omega (arith, least_at_most c.self.invariant c.self.view_is i low, c.in_err-row.ensures.none (i / ROW) (least_there c.self.invariant c.self.view_is i low)))

pub first_of-requires : goal.first_of-requires
first_of-requires c = among_row _ c.as_slice.ensures.value c.row_at.ensures _ _ c.self.invariant c.in_ok-row.ensures.within c.get-least.ensures

pub returns-clause-within : goal.returns-clause-within
returns-clause-within c = (place_shown _ c.as_slice.ensures.value c.row_at.ensures c.self.view_is _ c.first_of.ensures.within).0

pub returns-clause-least : goal.returns-clause-least
returns-clause-least c = λ i low.
    let place = place_shown _ c.as_slice.ensures.value c.row_at.ensures c.self.view_is _ c.first_of.ensures.within in
    let row = c.in_ok-row.ensures.least (i / ROW) (least_there c.self.invariant c.self.view_is i low) in
    omega (arith, least_at_most c.self.invariant c.self.view_is i low, row, place.1, c.first_of.ensures.number, c.get-least.ensures)
