use Rattle.v4_options.proofs.Subexact.{spelled, fails}
use Rattle.v4_options.proofs.laws.exact_subreading.Goals as goal

pub returns : goal.returns
returns c = record { list = spelled; fault = fails }
