use Rattle.std.proofs.Common.{refl}
use Rattle.timers.proofs.DeadlineLemmas.{shown-set}
use Rattle.timers.proofs.deadlines.Deadlines.clear.Goals as goal

pub returns : goal.returns
returns c = shown-set _ _ _ _ _ _ _ c.self.view_is c.set.ensures refl
