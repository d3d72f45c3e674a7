use Rattle.config.proofs.MembershipLemmas.{is_membership}
use Rattle.config.proofs.membership.Membership.of.Goals as goal

pub invariant_of-result : goal.invariant_of-result
invariant_of-result c = is_membership (λ row. row.items) c.args.members.items c.args.count c.requires.some c.requires.few c.requires.each_plan
