use Rattle.std.proofs.Common.{subst}
use Rattle.v6_message.specs.Ia.{IaValue}
use Rattle.v6_message.specs.Lists.{AreLong}
use Rattle.v6_message.proofs.Decided.{longs}
use Rattle.v6_message.proofs.ia.Ia6.addresses.Goals as goal

pub returns-clause-long : goal.returns-clause-long
returns-clause-long c = subst (λ (ia : IaValue). AreLong ia.options) c.self.view_is ((longs _).0 c.self.invariant.addresses)
