use Rattle.promises.proofs.ExampleLemmas.{lease_granted}
use Rattle.promises.proofs.examples.a_lease_is_granted.Goals as goal

pub returns : goal.returns
returns c = lease_granted
