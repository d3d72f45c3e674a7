use Rattle.std.proofs.Common.{refl}
use Rattle.world.specs.Alone.{alone_step, after_all, frames}
use Rattle.promises.proofs.ExampleLemmas.{lease_kept, offer_a}
use Rattle.promises.proofs.examples.a_circuit_turns_off.Goals as goal

pub returns-clause-off : goal.returns-clause-off
unfolding alone_step
returns-clause-off c = refl

pub returns-clause-frame : goal.returns-clause-frame
unfolding alone_step
returns-clause-frame c = refl

pub returns-clause-up : goal.returns-clause-up
unfolding alone_step
returns-clause-up c = refl

pub returns-clause-down : goal.returns-clause-down
unfolding alone_step
returns-clause-down c = refl

pub returns-clause-on : goal.returns-clause-on
unfolding alone_step frames
returns-clause-on c = offer_a

pub returns-clause-leases : goal.returns-clause-leases
unfolding alone_step after_all
returns-clause-leases c = lease_kept
