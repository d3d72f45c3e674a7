use Rattle.config.proofs.PlanLawLemmas.{no_plans_fault}
use Rattle.config.proofs.laws.no_fault_of_plans.Goals as goal

pub returns : goal.returns
returns c = no_plans_fault
