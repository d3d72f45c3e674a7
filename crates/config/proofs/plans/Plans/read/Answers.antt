use Rattle.std.proofs.Common.{◌≤◌, length, sym, ap, subst, ◌∙◌}
use Rattle.std.proofs.lemmas.List.{length-map}
use Rattle.config.specs.Valid.{IsConfig}
use Rattle.config.proofs.PlanLemmas.{zip_length}
use Rattle.config.proofs.plans.Plans.read.Goals as goal

pub plans_of-requires-clause-some : goal.plans_of-requires-clause-some
plans_of-requires-clause-some c =
    let size = sym (length-map c.args.texts.now (λ text. text.now)) ∙ zip_length IsConfig _ c.in-Ok.configs.items c.in-Ok.ensures.read ∙ ap length (sym c.deref.ensures.value) in
    subst (λ n. 1 ≤ n) size c.requires.least

pub plans_of-requires-clause-few : goal.plans_of-requires-clause-few
plans_of-requires-clause-few c =
    let size = sym (length-map c.args.texts.now (λ text. text.now)) ∙ zip_length IsConfig _ c.in-Ok.configs.items c.in-Ok.ensures.read ∙ ap length (sym c.deref.ensures.value) in
    subst (λ n. n ≤ 8) size c.requires.most
