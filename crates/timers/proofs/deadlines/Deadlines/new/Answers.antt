use Rattle.timers.proofs.DeadlineLemmas.{shown_at_first}
use Rattle.timers.proofs.deadlines.Deadlines.new.Goals as goal

pub returns : goal.returns
returns c = shown_at_first _ _ _ c.in_ok-new.ensures c.new-2.ensures
