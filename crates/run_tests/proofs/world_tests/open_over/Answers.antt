use Rattle.run_tests.proofs.world_tests.open_over.Goals as goal

pub open-requires-clause-synced : goal.open-requires-clause-synced
open-requires-clause-synced c = λ k d within readable. c.requires.synced _
