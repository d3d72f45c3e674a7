use Rattle.lease_log.proofs.ToldLemmas.{followed4, followed6}
use Rattle.lease_log.proofs.laws.changes_tell_who_has_a_slot.Goals as goal

pub returns-clause-four : goal.returns-clause-four
returns-clause-four c = followed4

pub returns-clause-six : goal.returns-clause-six
returns-clause-six c = followed6
