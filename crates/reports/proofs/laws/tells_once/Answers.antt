use Rattle.reports.proofs.LawLemmas.{never, once_if_ever}
use Rattle.reports.proofs.laws.tells_once.Goals as goal

pub returns-clause-new : goal.returns-clause-new
returns-clause-new c = once_if_ever

pub returns-clause-old : goal.returns-clause-old
returns-clause-old c = never
