use Rattle.std.proofs.Common.{◌≤◌, length, subst}
use Rattle.lossy_net.specs.Net.{NetValue, datagrams}
use Rattle.lossy_net.proofs.Lists.{within_quota}
use Rattle.lossy_net.proofs.net.Net.quota.Goals as goal

pub returns-clause-within : goal.returns-clause-within
returns-clause-within c = λ circuit dir.
    let P : NetValue → Type 0 = λ net. length (datagrams net circuit dir) ≤ net.quota in
    subst P c.self.view_is (within_quota c.self.inside circuit dir c.self.invariant)
