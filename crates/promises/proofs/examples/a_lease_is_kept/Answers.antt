use Rattle.promises.proofs.ExampleLemmas.{ack_a, lease_kept, lease_sure}
use Rattle.promises.proofs.examples.a_lease_is_kept.Goals as goal

pub returns-clause-ack : goal.returns-clause-ack
returns-clause-ack c = ack_a

pub returns-clause-kept : goal.returns-clause-kept
returns-clause-kept c = lease_kept

pub returns-clause-sure : goal.returns-clause-sure
returns-clause-sure c = lease_sure
