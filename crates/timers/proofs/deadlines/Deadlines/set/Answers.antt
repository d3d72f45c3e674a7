use Rattle.timers.proofs.DeadlineLemmas.{shown-set, entry_of_until}
use Rattle.timers.proofs.deadlines.Deadlines.set.Goals as goal

pub returns : goal.returns
returns c = shown-set _ _ _ _ _ _ _ c.self.view_is c.set.ensures (entry_of_until _ c.requires.until)
