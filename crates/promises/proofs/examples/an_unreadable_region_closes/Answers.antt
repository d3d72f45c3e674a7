use Rattle.std.proofs.Common.{refl}
use Rattle.world.specs.Alone.{alone_step, after_all}
use Rattle.promises.proofs.examples.an_unreadable_region_closes.Goals as goal

pub returns-clause-open : goal.returns-clause-open
unfolding alone_step
returns-clause-open c = refl

pub returns-clause-kept : goal.returns-clause-kept
unfolding alone_step after_all
returns-clause-kept c = refl

pub returns-clause-doubt : goal.returns-clause-doubt
unfolding alone_step
returns-clause-doubt c = refl

pub returns-clause-found : goal.returns-clause-found
unfolding alone_step after_all
returns-clause-found c = refl
