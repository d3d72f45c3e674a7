use Rattle.std.proofs.Common.{refl}
use Rattle.v6_options.specs.Reading.{listed_from, cut_from}
use Rattle.relay.specs.Up6.{relayed_up6}
use Rattle.promises.proofs.examples.frames_go_up6.Goals as goal

pub returns-clause-solicit : goal.returns-clause-solicit
unfolding relayed_up6 listed_from cut_from
returns-clause-solicit c = refl

pub returns-clause-nested : goal.returns-clause-nested
unfolding relayed_up6 listed_from cut_from
returns-clause-nested c = refl

pub returns-clause-from_server : goal.returns-clause-from_server
unfolding relayed_up6 listed_from cut_from
returns-clause-from_server c = refl

pub returns-clause-cut : goal.returns-clause-cut
unfolding relayed_up6 listed_from cut_from
returns-clause-cut c = refl

pub returns-clause-short : goal.returns-clause-short
unfolding relayed_up6 listed_from cut_from
returns-clause-short c = refl
