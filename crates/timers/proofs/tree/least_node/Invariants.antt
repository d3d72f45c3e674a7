use Rattle.std.proofs.Common.{◌≡◌, ◌*◌, ◌-◌, ◌<◌, ◌≤◌, get_or}
use Rattle.timers.proofs.tree.least_node.Given as goal

abbrev pub invariant-loop-node : goal.invariant-loop-node
invariant-loop-node l = record {
  some : 1 ≤ l.node;
  within : l.node < 2 * l.leaves;
  least : get_or l.nodes l.node 0 ≡ get_or l.nodes 1 0;
}

abbrev pub decreases-loop-node : goal.decreases-loop-node
decreases-loop-node l = l.leaves - l.node
