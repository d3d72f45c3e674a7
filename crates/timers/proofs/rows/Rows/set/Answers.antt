use Rattle.timers.proofs.RowLemmas.{rows_after_write}
use Rattle.timers.proofs.rows.Rows.set.Goals as goal

pub invariant_of-self : goal.invariant_of-self
invariant_of-self c = rows_after_write _ _ _ _ _ _ _ _ _ c.self.invariant c.self.view_is c.requires c.as_slice.ensures.value c.row_at.ensures c.least_of-least.ensures c.set.ensures
