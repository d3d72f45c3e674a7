use Rattle.v6_options.proofs.Exact.{spelled, fails}
use Rattle.v6_options.proofs.laws.exact_reading.Goals as goal

pub returns : goal.returns
returns c = record {
  list = λ bytes list are. spelled bytes are.each list;
  fault = λ bytes fault are. fails bytes are.each fault;
}
