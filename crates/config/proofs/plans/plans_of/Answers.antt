use Rattle.std.proofs.Common.{ap, ◌∙◌, length}
use Rattle.config.proofs.PlanLemmas.{row_count, row_lengths}
use Rattle.config.proofs.plans.plans_of.Goals as goal

pub invariant_of-result : goal.invariant_of-result
invariant_of-result c =
    let members = c.in-Ok-members_of.members.items in (
      c.requires.some,
      c.requires.few,
      row_count (λ row. row.items) members c.circuits.result.now c.args.configs.now c.in-Ok-members_of.ensures ∙ ap length c.circuits.ensures.value,
      row_lengths (λ row. row.items) members c.circuits.result.now c.args.configs.now c.in-Ok-members_of.ensures,
    )
