use Rattle.std.proofs.Common.{◌≡◌, ◌<◌, ℕ, length, slice_index_or}
use Rattle.lease_disk.specs.declared.entry.Entry.{Entry}
use Rattle.lease_disk.proofs.pool.contents_at.Given as goal

abbrev pub invariant-loop-i : goal.invariant-loop-i
invariant-loop-i g l = record {
  size : length l.slots ≡ 16;
  each : (k : ℕ) (d : g.row.S.Denot) (e : Entry g.row.S.Denot) → k < l.i → slice_index_or l.slots k d ≡ g.S.Slot.live l.seconds (slice_index_or l.entries k e).content;
}
