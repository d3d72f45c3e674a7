use Rattle.v6_options.proofs.Tokens.{cut_is}
use Rattle.v6_options.proofs.options.is_cut.Goals as goal

pub returns-in-Nothing : goal.returns-in-Nothing
returns-in-Nothing c = rw (cut_is _ _ _ c.in-Nothing.ensures) at c.row.invariant

pub returns-in-Cut : goal.returns-in-Cut
returns-in-Cut c = rw (cut_is _ _ _ c.in-Cut.ensures) at c.row.invariant

pub row-preserved : goal.row-preserved
row-preserved c = rw (cut_is _ _ _ c.in-Whole.ensures) at c.row.invariant
