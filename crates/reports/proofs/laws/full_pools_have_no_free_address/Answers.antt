use Rattle.reports.specs.Used.{is_used4, is_used6}
use Rattle.reports.proofs.LawLemmas.{counts_all}
use Rattle.reports.proofs.laws.full_pools_have_no_free_address.Goals as goal

pub returns-clause-four : goal.returns-clause-four
returns-clause-four c = counts_all is_used4

pub returns-clause-six : goal.returns-clause-six
returns-clause-six c = counts_all is_used6
