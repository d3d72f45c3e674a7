use Rattle.promises.proofs.ExampleLemmas.{nak_a}
use Rattle.promises.proofs.examples.a_foreign_address_is_refused.Goals as goal

pub returns : goal.returns
returns c = nak_a
