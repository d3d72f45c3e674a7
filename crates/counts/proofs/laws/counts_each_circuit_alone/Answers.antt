use Rattle.counts.proofs.TallyLemmas.{all_counted, own_counted}
use Rattle.counts.proofs.laws.counts_each_circuit_alone.Goals as goal

pub returns-clause-all : goal.returns-clause-all
returns-clause-all c = all_counted

pub returns-clause-own : goal.returns-clause-own
returns-clause-own c = own_counted
