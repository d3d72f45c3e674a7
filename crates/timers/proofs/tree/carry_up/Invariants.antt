use Rattle.std.proofs.Common.{◌≡◌, ◌<◌, drop}
use Rattle.timers.specs.Tree.{AreLesserBut}
use Rattle.timers.proofs.tree.carry_up.Given as goal

abbrev pub invariant-loop-node : goal.invariant-loop-node
invariant-loop-node l = record {
  below : l.node < l.leaves;
  others : AreLesserBut l.leaves l.node l.nodes;
  leaves : drop l.leaves l.nodes ≡ drop l.leaves l.fn.nodes;
}

abbrev pub decreases-loop-node : goal.decreases-loop-node
decreases-loop-node l = l.node
