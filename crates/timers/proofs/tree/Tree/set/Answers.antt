use Rattle.std.proofs.Common.{◌≡◌, ◌+◌, length, drop, ap, ◌∙◌, arith}
use Rattle.std.proofs.lemmas.List.{with_items_is}
use Rattle.std.specs.Vec.{with_item}
use Rattle.timers.proofs.TreeLemmas.{leaf_written}
use Rattle.timers.proofs.tree.Tree.set.Goals as goal

pub returns : goal.returns
returns c =
    let leaves = c.self.inside.leaves in
    let count : length c.carry_up.new.nodes ≡ c.self.inside.nodes.len = omega (arith, c.as_mut_slice.ensures.len, c.carry_up.auto.nodes) in
    ap (drop leaves) (with_items_is (with_item c.self.inside.nodes (leaves + c.args.leaf) c.args.number) c.carry_up.new.nodes count)
    ∙ leaf_written _ c.args.leaf c.args.number _ _ _ _ c.self.view_is c.as_mut_slice.ensures.value c.carry_up.ensures.leaves
