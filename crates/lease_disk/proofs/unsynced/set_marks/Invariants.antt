use Rattle.std.proofs.Common.{◌≡◌, ℕ, slice_index_or, false}
use Rattle.std.specs.Prelude.{if◌then◌else◌}
use Rattle.lease_disk.specs.Region.{is_within}
use Rattle.lease_disk.proofs.unsynced.set_marks.Given as goal

abbrev pub invariant-loop-i : goal.invariant-loop-i
invariant-loop-i l = (k : ℕ) → slice_index_or l.marks k false ≡ (if is_within l.at l.i k then l.value else slice_index_or l.initial.marks k false)
