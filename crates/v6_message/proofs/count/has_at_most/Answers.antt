use Rattle.std.proofs.Common.{sym, ◌∙◌}
use Rattle.v6_message.proofs.Counts.{at_stop, at_other, at_full, at_code}
use Rattle.v6_message.proofs.count.has_at_most.Goals as goal

pub returns-in-Nothing : goal.returns-in-Nothing
returns-in-Nothing c = sym (at_stop _ _ _ _ _ c.in-Nothing.is c.next_token.ensures) ∙ c.row.invariant

pub row-preserved-then-other-code : goal.row-preserved-then-other-code
row-preserved-then-other-code c = sym (at_other _ _ _ _ _ _ c.if-other-code.true c.in-Whole.ensures) ∙ c.row.invariant

pub returns-in-Whole-2 : goal.returns-in-Whole-2
returns-in-Whole-2 c = sym (at_full _ _ _ _ _ _ c.if-other-code.false c.if-free-eq0.true c.in-Whole.ensures) ∙ c.row.invariant

pub row-preserved : goal.row-preserved
row-preserved c = sym (at_code _ _ _ _ _ _ c.if-other-code.false c.if-free-eq0.false c.in-Whole.ensures) ∙ c.row.invariant
