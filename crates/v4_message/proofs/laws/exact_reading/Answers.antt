use Rattle.v4_message.proofs.Exact.{spelled, fails}
use Rattle.v4_message.proofs.laws.exact_reading.Goals as goal

pub returns : goal.returns
returns c = record { message = λ bytes m fits. spelled bytes fits m; fault = λ bytes fault fits. fails bytes fits fault }
