use Rattle.std.proofs.Common.{◌≡◌, ◌<◌, ℕ, slice_index_or, false}
use Rattle.lease_disk.proofs.unsynced.unmark.Given as goal

abbrev pub invariant-loop-mark : goal.invariant-loop-mark
invariant-loop-mark l = (k : ℕ) → k < l.mark-index → slice_index_or l.marks k false ≡ false
