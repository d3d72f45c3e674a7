use Rattle.std.proofs.Common.{rules}
use Rattle.lossy_net.proofs.ring.Ring.next.Goals as goal

pub returns-then-self-quota-clause-newest : goal.returns-then-self-quota-clause-newest
returns-then-self-quota-clause-newest c = search rules

pub returns-else-self-quota-clause-newest : goal.returns-else-self-quota-clause-newest
returns-else-self-quota-clause-newest c = search rules
