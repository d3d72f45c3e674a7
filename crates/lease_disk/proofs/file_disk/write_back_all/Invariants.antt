use Rattle.std.proofs.Common.{◌≡◌, ℕ, true, false, take}
use Rattle.lease_disk.specs.Device.{is_in}
use Rattle.lease_disk.specs.FileDisk.{in_doubt}
use Rattle.lease_disk.proofs.file_disk.write_back_all.Given as goal

abbrev pub invariant-regions : goal.invariant-regions
invariant-regions l = record {
  written : (q : ℕ) → is_in (take l.index l.regions) q ≡ true → in_doubt l.doubts q ≡ true → in_doubt l.unwritten q ≡ false;
}
