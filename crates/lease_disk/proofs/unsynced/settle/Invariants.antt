use Rattle.std.proofs.Common.{◌≡◌, ℕ, ◌&&◌, slice_index, slice_index_or, false}
use Rattle.std.specs.Prelude.{if◌then◌else◌, nat_lt}
use Rattle.lease_disk.proofs.unsynced.settle.Given as goal

abbrev pub invariant-loop-i : goal.invariant-loop-i
invariant-loop-i l = (k : ℕ) → slice_index l.bytes k ≡ (if nat_lt k l.i && slice_index_or l.marks k false then l.byte else slice_index l.initial.bytes k)
