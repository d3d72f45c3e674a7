use Rattle.v4_options.proofs.Left.{look_up-without, look_up-without_other, AreOptions-without}
use Rattle.v4_options.proofs.laws.left_out.Goals as goal

pub returns : goal.returns
returns c = record { gone = look_up-without; others = look_up-without_other; distinct = AreOptions-without }
