use Rattle.std.proofs.Common.{refl}
use Rattle.world.specs.Alone.{alone_step}
use Rattle.promises.proofs.examples.a_closed_circuit_is_silent.Goals as goal

pub returns-clause-dropped : goal.returns-clause-dropped
unfolding alone_step
returns-clause-dropped c = refl

pub returns-clause-same : goal.returns-clause-same
unfolding alone_step
returns-clause-same c = refl

pub returns-clause-tick : goal.returns-clause-tick
unfolding alone_step
returns-clause-tick c = refl
