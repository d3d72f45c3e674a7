use Rattle.bindings_v6.proofs.LeaseLemmas.{lease_kept, lease_lasts}
use Rattle.bindings_v6.proofs.laws.keeps_its_lease.Goals as goal

pub returns-clause-decided : goal.returns-clause-decided
returns-clause-decided c pool clock m = lease_kept pool clock m

pub returns-clause-later : goal.returns-clause-later
returns-clause-later c later b client lease bound live = lease_lasts later b client lease bound live
