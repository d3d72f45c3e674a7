use Rattle.config.proofs.LawLemmas.{not_both}
use Rattle.config.proofs.laws.no_fault.Goals as goal

pub returns : goal.returns
returns c = not_both
