use Rattle.promises.proofs.ExampleLemmas.{offer_a, offer_a1}
use Rattle.promises.proofs.examples.an_offer_comes_back.Goals as goal

pub returns-clause-one : goal.returns-clause-one
returns-clause-one c = offer_a

pub returns-clause-other : goal.returns-clause-other
returns-clause-other c = offer_a1
