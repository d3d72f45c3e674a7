use Rattle.std.proofs.Common.{◌≡◌, ◌<◌, ℕ, length, slice_index}
use Rattle.lease_disk.specs.Halves.{place}
use Rattle.lease_disk.proofs.format1.reading.halves_of_banks.Given as goal

abbrev pub invariant-loop-i : goal.invariant-loop-i
invariant-loop-i l = record {
  size : length l.halves ≡ 16384;
  so_far : (k : ℕ) → k < l.i → slice_index l.halves k ≡ slice_index l.banks (place k);
}
