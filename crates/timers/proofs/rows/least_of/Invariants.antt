use Rattle.timers.proofs.RowLemmas.{IsLeastUpTo}
use Rattle.timers.proofs.rows.least_of.Given as goal

abbrev pub invariant-loop-number : goal.invariant-loop-number
invariant-loop-number l = IsLeastUpTo l.number-index l.numbers l.least
