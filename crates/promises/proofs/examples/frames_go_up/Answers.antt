use Rattle.std.proofs.Common.{refl}
use Rattle.v4_options.specs.Reading.{listed_from, fault_from}
use Rattle.relay.specs.Up4.{relayed_up4}
use Rattle.promises.proofs.examples.frames_go_up.Goals as goal

pub returns-clause-discover : goal.returns-clause-discover
unfolding relayed_up4 listed_from fault_from
returns-clause-discover c = refl

pub returns-clause-request : goal.returns-clause-request
unfolding relayed_up4 listed_from fault_from
returns-clause-request c = refl

pub returns-clause-from_server : goal.returns-clause-from_server
unfolding relayed_up4 listed_from fault_from
returns-clause-from_server c = refl

pub returns-clause-cut : goal.returns-clause-cut
unfolding relayed_up4 listed_from fault_from
returns-clause-cut c = refl

pub returns-clause-twice : goal.returns-clause-twice
unfolding relayed_up4 listed_from fault_from
returns-clause-twice c = refl

pub returns-clause-nothing : goal.returns-clause-nothing
unfolding relayed_up4 listed_from fault_from
returns-clause-nothing c = refl

pub returns-clause-option_82 : goal.returns-clause-option_82
unfolding relayed_up4 listed_from fault_from
returns-clause-option_82 c = refl

pub returns-clause-rest : goal.returns-clause-rest
unfolding relayed_up4 listed_from fault_from
returns-clause-rest c = refl

pub returns-clause-long : goal.returns-clause-long
unfolding relayed_up4 listed_from fault_from
returns-clause-long c = refl
