use Rattle.v6_message.proofs.RelayExact.{spelled, fails}
use Rattle.v6_message.proofs.laws.exact_relay_reading.Goals as goal

pub returns : goal.returns
returns c = record {
  message = λ bytes m are. spelled bytes are.each m;
  fault = λ bytes fault are. fails bytes are.each fault;
}
