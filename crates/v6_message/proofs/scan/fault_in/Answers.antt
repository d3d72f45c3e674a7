use Rattle.std.proofs.Common.{◌∙◌}
use Rattle.v6_message.proofs.Tokens.{fault_is}
use Rattle.v6_message.proofs.scan.fault_in.Goals as goal

pub returns-in-Nothing : goal.returns-in-Nothing
returns-in-Nothing c = rw (fault_is _ _ _ _ _ _ c.in-Nothing.ensures) at c.row.invariant.left

pub returns-in-Cut : goal.returns-in-Cut
returns-in-Cut c = rw (fault_is _ _ _ _ _ _ c.in-Cut.ensures) at c.row.invariant.left

pub returns-in-Whole : goal.returns-in-Whole
returns-in-Whole c = rw (fault_is _ _ _ _ _ _ c.in-Whole.ensures, ← c.is_formed.ensures, c.if-not-is_formed.true) at c.row.invariant.left

pub returns-in-Whole-2 : goal.returns-in-Whole-2
returns-in-Whole-2 c =
    let has = rw c.row.invariant.same at c.has.ensures in
    rw (fault_is _ _ _ _ _ _ c.in-Whole.ensures, ← c.is_formed.ensures, c.if-not-is_formed.false, ← has, c.if-has.true) at c.row.invariant.left

pub row-preserved : goal.row-preserved
row-preserved c =
    let has = rw c.row.invariant.same at c.has.ensures in
    let left = rw (fault_is _ _ _ _ _ _ c.in-Whole.ensures, ← c.is_formed.ensures, c.if-not-is_formed.false, ← has, c.if-has.false) at c.row.invariant.left in
    let first = rw c.row.invariant.same at c.add.ensures.first in
    let second = rw c.row.invariant.same at c.add.ensures.second in
    record { same = c.add.ensures.sender ∙ c.row.invariant.same; left = rw (first, second) left }
