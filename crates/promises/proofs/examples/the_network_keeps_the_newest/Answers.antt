use Rattle.promises.proofs.ExampleLemmas.{both_kept, newest_kept, none_down, none_sent, oldest_lost}
use Rattle.promises.proofs.examples.the_network_keeps_the_newest.Goals as goal

pub returns-clause-none : goal.returns-clause-none
returns-clause-none c = none_sent

pub returns-clause-apart : goal.returns-clause-apart
returns-clause-apart c = none_down

pub returns-clause-both : goal.returns-clause-both
returns-clause-both c = both_kept

pub returns-clause-last : goal.returns-clause-last
returns-clause-last c = newest_kept

pub returns-clause-lost : goal.returns-clause-lost
returns-clause-lost c = oldest_lost
