use Rattle.std.proofs.Common.{arith, ap}
use Rattle.std.specs.Prelude.{is_some}
use Rattle.timers.proofs.DeadlineLemmas.{none_among, some_among, deadline_among}
use Rattle.timers.proofs.deadlines.Deadlines.last.Goals as goal

pub returns-in_err-slot-clause-none : goal.returns-in_err-slot-clause-none
returns-in_err-slot-clause-none c =
    (λ _. none_among _ _ _ c.self.view_is c.in_err-slot.ensures.none, λ _. ap is_some c.from_residual.ensures)

pub returns-clause-none : goal.returns-clause-none
returns-clause-none c =
    (λ some slot. cc, λ none. absurd (some_among _ _ _ c.self.view_is _ c.in_ok-slot.ensures.within c.in_ok-slot.ensures.below none))

pub returns-clause-least : goal.returns-clause-least
returns-clause-least c = λ slot until has.
    let there = deadline_among _ _ _ c.self.view_is slot until has in
    omega (arith, there.1, c.in_ok-slot.ensures.least slot there.0)
