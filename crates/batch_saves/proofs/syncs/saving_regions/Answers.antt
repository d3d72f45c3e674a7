use Rattle.std.proofs.lemmas.Grind.{common_steps}
use Rattle.std.proofs.Common.{arith}
use Rattle.batch_saves.proofs.syncs.saving_regions.Goals as goal

pub parts-preserved : goal.parts-preserved
parts-preserved c = grind (arith, common_steps)
