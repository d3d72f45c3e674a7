use Rattle.std.proofs.Common.{rules}
use Rattle.bindings_v4.proofs.table4.decision_for.Goals as goal

pub returns-in-Discover-default : goal.returns-in-Discover-default
returns-in-Discover-default c = search rules

pub returns-in-Request-Another : goal.returns-in-Request-Another
returns-in-Request-Another c = search rules

pub returns-in-Request-This : goal.returns-in-Request-This
returns-in-Request-This c = search rules

pub returns-in-Request-Anybody : goal.returns-in-Request-Anybody
returns-in-Request-Anybody c = search rules

pub returns-in-Decline-default : goal.returns-in-Decline-default
returns-in-Decline-default c = search rules

pub returns-in-Release-default : goal.returns-in-Release-default
returns-in-Release-default c = search rules

pub returns-in-Inform-default : goal.returns-in-Inform-default
returns-in-Inform-default c = search rules
