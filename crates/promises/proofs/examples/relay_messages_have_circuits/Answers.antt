use Rattle.std.proofs.Common.{refl}
use Rattle.v6_options.specs.Reading.{listed_from, cut_from}
use Rattle.requests.specs.Addressee.{addressee}
use Rattle.promises.proofs.examples.relay_messages_have_circuits.Goals as goal

pub returns-clause-first : goal.returns-clause-first
unfolding addressee listed_from cut_from
returns-clause-first c = refl

pub returns-clause-second : goal.returns-clause-second
unfolding addressee listed_from cut_from
returns-clause-second c = refl

pub returns-clause-beginning : goal.returns-clause-beginning
unfolding addressee listed_from cut_from
returns-clause-beginning c = refl

pub returns-clause-link : goal.returns-clause-link
unfolding addressee listed_from cut_from
returns-clause-link c = refl

pub returns-clause-unrelayed : goal.returns-clause-unrelayed
unfolding addressee listed_from cut_from
returns-clause-unrelayed c = refl

pub returns-clause-cut : goal.returns-clause-cut
unfolding addressee listed_from cut_from
returns-clause-cut c = refl
