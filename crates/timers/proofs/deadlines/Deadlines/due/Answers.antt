use Rattle.timers.proofs.DeadlineLemmas.{none_due_among}
use Rattle.timers.proofs.deadlines.Deadlines.due.Goals as goal

pub returns-clause-none : goal.returns-clause-none
returns-clause-none c = none_due_among _ _ _ c.self.view_is _ _ _ c.seconds.ensures.value c.least_below.ensures.none
