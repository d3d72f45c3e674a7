use Rattle.std.proofs.Common.{ℕ, ◌<◌, length, get_or}
use Rattle.config.proofs.pairs.first_pair.Given as goal

abbrev pub invariant-loop-first : goal.invariant-loop-first
invariant-loop-first g l =
    (i j : ℕ) (d : g.row.T.Denot) → i < l.first → i < j → j < length l.entries → g.R.Relation.related (get_or l.entries i d) (get_or l.entries j d) → ⊥
