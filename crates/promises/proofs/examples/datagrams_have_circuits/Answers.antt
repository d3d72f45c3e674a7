use Rattle.std.proofs.Common.{refl}
use Rattle.v4_options.specs.Reading.{listed_from, fault_from}
use Rattle.requests.specs.Addressee.{addressee}
use Rattle.promises.proofs.examples.datagrams_have_circuits.Goals as goal

pub returns-clause-first : goal.returns-clause-first
unfolding addressee listed_from fault_from
returns-clause-first c = refl

pub returns-clause-second : goal.returns-clause-second
unfolding addressee listed_from fault_from
returns-clause-second c = refl

pub returns-clause-source : goal.returns-clause-source
unfolding addressee listed_from fault_from
returns-clause-source c = refl

pub returns-clause-relay : goal.returns-clause-relay
unfolding addressee listed_from fault_from
returns-clause-relay c = refl

pub returns-clause-beginning : goal.returns-clause-beginning
unfolding addressee listed_from fault_from
returns-clause-beginning c = refl

pub returns-clause-gateway : goal.returns-clause-gateway
unfolding addressee listed_from fault_from
returns-clause-gateway c = refl

pub returns-clause-unrelayed : goal.returns-clause-unrelayed
unfolding addressee listed_from fault_from
returns-clause-unrelayed c = refl

pub returns-clause-cut : goal.returns-clause-cut
unfolding addressee listed_from fault_from
returns-clause-cut c = refl
