use Rattle.std.proofs.Common.{rules}
use Rattle.timers.proofs.tree.least_node.Goals as goal

pub loop-node-preserved : goal.loop-node-preserved
loop-node-preserved c = search rules
