use Rattle.std.proofs.Common.{count_by}
use Rattle.timers.specs.Deadlines.{is_due}
use Rattle.timers.proofs.DeadlineLemmas.{HasSwept}
use Rattle.timers.proofs.deadlines.Deadlines.sweep.Given as goal

abbrev pub invariant-loop-slot : goal.invariant-loop-slot
invariant-loop-slot l = HasSwept l.now l.fn.self l.self

abbrev pub decreases-loop-slot : goal.decreases-loop-slot
decreases-loop-slot l = count_by (is_due l.now) l.self.slots
