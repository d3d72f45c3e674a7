use Rattle.std.proofs.Common.{refl}
use Rattle.lease_disk.specs.Recovered.{recovered}
use Rattle.promises.proofs.examples.a_region_is_recovered.Goals as goal

pub returns-clause-bound : goal.returns-clause-bound
unfolding recovered
returns-clause-bound c = refl

pub returns-clause-format_1 : goal.returns-clause-format_1
unfolding recovered
returns-clause-format_1 c = refl

pub returns-clause-newer : goal.returns-clause-newer
unfolding recovered
returns-clause-newer c = refl

pub returns-clause-around : goal.returns-clause-around
unfolding recovered
returns-clause-around c = refl

pub returns-clause-over : goal.returns-clause-over
unfolding recovered
returns-clause-over c = refl

pub returns-clause-no_half : goal.returns-clause-no_half
unfolding recovered
returns-clause-no_half c = refl

pub returns-clause-state : goal.returns-clause-state
unfolding recovered
returns-clause-state c = refl

pub returns-clause-short_key : goal.returns-clause-short_key
unfolding recovered
returns-clause-short_key c = refl

pub returns-clause-long_duid : goal.returns-clause-long_duid
unfolding recovered
returns-clause-long_duid c = refl
