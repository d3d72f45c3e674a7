use Rattle.std.proofs.Common.{ℕ, ◌<◌, length, get_or}
use Rattle.config.proofs.pairs.first_of_all.Given as goal

abbrev pub invariant-loop-one : goal.invariant-loop-one
invariant-loop-one g l =
    (i j : ℕ) (d e : g.row.T.Denot) → i < l.one → j < length l.entries → g.R.Relation.related (get_or l.entries i d) (get_or l.entries j e) → ⊥
