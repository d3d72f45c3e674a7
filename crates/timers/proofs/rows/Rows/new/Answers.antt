use Rattle.timers.proofs.RowLemmas.{rows_made}
use Rattle.timers.proofs.rows.Rows.new.Goals as goal

pub invariant_of-result : goal.invariant_of-result
invariant_of-result c = rows_made _ _ _ _ _ (c.in_ok-numbers.ensures.items_if_clones_equal (λ y same. same)) c.div_ceil.ensures c.in_ok-tree.ensures
