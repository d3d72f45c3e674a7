use Rattle.memory_refusals.proofs.steps.server.Goals as goal

pub open-requires : goal.open-requires
open-requires c = record { synced = λ tells k d within readable. c.requires _ }
