use Rattle.promises.proofs.ExampleLemmas.{held_at_159, over_at_160}
use Rattle.promises.proofs.examples.offers_expire.Goals as goal

pub returns-clause-held : goal.returns-clause-held
returns-clause-held c = held_at_159

pub returns-clause-over : goal.returns-clause-over
returns-clause-over c = over_at_160
