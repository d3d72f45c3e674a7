use Rattle.std.proofs.Common.{refl}
use Rattle.world.specs.Alone.{alone_step, after_all}
use Rattle.promises.proofs.examples.a_region_moves.Goals as goal

pub returns-clause-again : goal.returns-clause-again
unfolding alone_step after_all
returns-clause-again c = refl

pub returns-clause-fails : goal.returns-clause-fails
unfolding alone_step after_all
returns-clause-fails c = refl

pub returns-clause-new : goal.returns-clause-new
unfolding alone_step after_all
returns-clause-new c = refl
