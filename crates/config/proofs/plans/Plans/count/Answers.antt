use Rattle.std.proofs.Common.{◌≡◌, length, ap, subst}
use Rattle.std.proofs.lemmas.List.Elements.{All-map}
use Rattle.std.specs.Prelude.{All}
use Rattle.config.proofs.plans.Plans.count.Goals as goal

pub returns-clause-rows : goal.returns-clause-rows
returns-clause-rows c =
    subst (All (λ row. length row ≡ c.self.inside.count)) (ap (λ plans. plans.members) c.self.view_is)
    (All-map (λ row. length row ≡ c.self.inside.count) (λ row. row.items) c.self.inside.members.items c.self.invariant.3)
