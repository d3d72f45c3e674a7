use Rattle.std.proofs.Common.{◌≡◌, ◌<◌, ℕ, true, false, take}
use Rattle.lease_disk.specs.Device.{StaySettled, is_in}
use Rattle.lease_disk.specs.FileDisk.{in_doubt}
use Rattle.lease_disk.proofs.doubts.Doubts.settle_written.Given as goal

abbrev pub invariant-regions : goal.invariant-regions
invariant-regions l = record {
  settled : (q : ℕ) → is_in (take l.index l.regions) q ≡ true → (q < 1024) × (in_doubt l.unwritten q ≡ false) → in_doubt l.self q ≡ false;
  stay : StaySettled (in_doubt l.fn.self) (in_doubt l.self);
}
