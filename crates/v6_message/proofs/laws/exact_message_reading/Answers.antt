use Rattle.v6_message.proofs.MessageExact.{spelled, fails}
use Rattle.v6_message.proofs.laws.exact_message_reading.Goals as goal

pub returns : goal.returns
returns c = record {
  message = λ bytes m are. spelled bytes are.each m;
  fault = λ bytes fault are. fails bytes are.each fault;
}
