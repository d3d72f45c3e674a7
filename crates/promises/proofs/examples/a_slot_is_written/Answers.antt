use Rattle.std.proofs.Common.{refl}
use Rattle.promises.proofs.examples.a_slot_is_written.Goals as goal

pub returns-clause-bound : goal.returns-clause-bound
returns-clause-bound c = refl

pub returns-clause-bound6 : goal.returns-clause-bound6
returns-clause-bound6 c = refl

pub returns-clause-free : goal.returns-clause-free
returns-clause-free c = refl

pub returns-clause-free6 : goal.returns-clause-free6
returns-clause-free6 c = refl

pub returns-clause-barred : goal.returns-clause-barred
returns-clause-barred c = refl

pub returns-clause-barred6 : goal.returns-clause-barred6
returns-clause-barred6 c = refl
