use Rattle.config.proofs.LawLemmas.{same_fault_number}
use Rattle.config.proofs.laws.one_number.Goals as goal

pub returns : goal.returns
returns c = same_fault_number
