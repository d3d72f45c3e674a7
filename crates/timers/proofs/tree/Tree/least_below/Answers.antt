use Rattle.std.proofs.Common.{arith}
use Rattle.std.proofs.lemmas.List.{get_or_read}
use Rattle.timers.proofs.TreeLemmas.{root_below, least_leaf}
use Rattle.timers.proofs.tree.Tree.least_below.Goals as goal

pub returns-then-index-limit-clause-none : goal.returns-then-index-limit-clause-none
returns-then-index-limit-clause-none c = λ k low.
    let root = get_or_read c.self.inside.nodes.items 1 c.index.result.now (omega arith) c.index.ensures 0 in
    omega (arith, root, root_below _ _ _ c.self.invariant c.self.view_is k low)

pub returns-clause-below : goal.returns-clause-below
returns-clause-below c =
    let root = get_or_read c.self.inside.nodes.items 1 c.index.result.now (omega arith) c.index.ensures 0 in
    omega (arith, root, least_leaf _ _ _ _ _ c.self.view_is c.as_slice.ensures.value c.least_node-node.ensures.leaf c.least_node-node.ensures.least)

pub returns-clause-least : goal.returns-clause-least
returns-clause-least c = λ k low.
    omega (arith, root_below _ _ _ c.self.invariant c.self.view_is k low, least_leaf _ _ _ _ _ c.self.view_is c.as_slice.ensures.value c.least_node-node.ensures.leaf c.least_node-node.ensures.least)
