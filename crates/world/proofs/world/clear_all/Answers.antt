use Rattle.std.proofs.Common.{rules}
use Rattle.world.proofs.world.clear_all.Goals as goal

pub circuits-preserved : goal.circuits-preserved
circuits-preserved c = search rules
