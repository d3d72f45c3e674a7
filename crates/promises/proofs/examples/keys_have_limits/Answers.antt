use Rattle.promises.proofs.ExampleLemmas.{key_of_1, key_of_2, key_of_64, key_of_65}
use Rattle.promises.proofs.examples.keys_have_limits.Goals as goal

pub returns-clause-short : goal.returns-clause-short
returns-clause-short c = key_of_1

pub returns-clause-least : goal.returns-clause-least
returns-clause-least c = key_of_2

pub returns-clause-most : goal.returns-clause-most
returns-clause-most c = key_of_64

pub returns-clause-long : goal.returns-clause-long
returns-clause-long c = key_of_65
