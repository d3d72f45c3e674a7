use Rattle.std.proofs.Common.{ℕ, ◌≤◌, ◌<◌, get_or}
use Rattle.config.proofs.pairs.first_related.Given as goal

abbrev pub invariant-loop-index : goal.invariant-loop-index
invariant-loop-index g l =
    (k : ℕ) (d : g.row.B.Denot) → l.from ≤ k → k < l.index → g.R.Relation.related l.one (get_or l.entries k d) → ⊥
