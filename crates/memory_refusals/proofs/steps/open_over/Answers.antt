use Rattle.memory_refusals.proofs.steps.open_over.Goals as goal

pub open_plans-requires-clause-synced : goal.open_plans-requires-clause-synced
open_plans-requires-clause-synced c = λ k d within readable. c.requires.synced _
