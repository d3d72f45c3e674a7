use Rattle.v4_options.proofs.Exact.{spelled, fails}
use Rattle.v4_options.proofs.laws.exact_reading.Goals as goal

pub returns : goal.returns
returns c = record { list = spelled; fault = fails }
