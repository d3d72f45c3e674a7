use Rattle.std.proofs.Common.{ℕ, Bool, ap, ◌∙◌}
use Rattle.v4_options.specs.declared.token.Syntax.TheVariants as syntax
use Rattle.v4_options.specs.Reading.{fault_from}
use Rattle.v4_options.proofs.Tokens.{fault_is}
use Rattle.v4_options.proofs.fault.suboption_fault.Goals as goal

pub returns-in-Nothing : goal.returns-in-Nothing
returns-in-Nothing c = rw (fault_is _ _ _ _ _ c.in-Nothing.ensures) at c.row.invariant

pub row-preserved-in-Pad : goal.row-preserved-in-Pad
row-preserved-in-Pad c = rw (fault_is _ _ _ _ _ c.in-Pad.ensures) at c.row.invariant

pub returns-in-End : goal.returns-in-End
returns-in-End c = rw (fault_is _ _ _ _ _ c.in-End.ensures) at c.row.invariant

pub returns-in-Cut : goal.returns-in-Cut
returns-in-Cut c = rw (fault_is _ _ _ _ _ c.in-Cut.ensures) at c.row.invariant

pub returns-in-Whole : goal.returns-in-Whole
returns-in-Whole c = rw (fault_is _ _ _ _ _ c.in-Whole.ensures, ← c.has.ensures, c.if-has.true) at c.row.invariant

pub row-preserved : goal.row-preserved
row-preserved c =
    let e = rw (fault_is _ _ _ _ _ c.in-Whole.ensures, ← c.has.ensures, c.if-has.false) at c.row.invariant in
    ap (λ (seen : ℕ → Bool). fault_from syntax.Suboptions seen 0 c.next_token.new.left) c.add.ensures ∙ e
