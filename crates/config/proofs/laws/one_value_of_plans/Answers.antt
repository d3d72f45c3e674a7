use Rattle.config.proofs.PlanLawLemmas.{one_plans}
use Rattle.config.proofs.laws.one_value_of_plans.Goals as goal

pub returns : goal.returns
returns c = one_plans
