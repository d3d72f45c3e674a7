use Rattle.reports.proofs.LawLemmas.{none_declined}
use Rattle.reports.proofs.laws.bars_are_counted_once.Goals as goal

pub returns : goal.returns
returns c = none_declined
