use Rattle.std.proofs.Common.{◌≡◌, ℕ, ◌-◌, slice_index}
use Rattle.std.specs.Prelude.{if◌then◌else◌}
use Rattle.lease_disk.specs.Region.{is_within}
use Rattle.lease_disk.proofs.bytes.put.Given as goal

abbrev pub invariant-loop-i : goal.invariant-loop-i
invariant-loop-i l = (k : ℕ) → slice_index l.target k ≡ (if is_within l.at l.i k then slice_index l.source (k - l.at) else slice_index l.initial.target k)
