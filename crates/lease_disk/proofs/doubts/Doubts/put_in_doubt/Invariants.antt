use Rattle.std.proofs.Common.{◌≡◌, ℕ, take}
use Rattle.lease_disk.specs.FileDisk.{in_doubt, or_listed}
use Rattle.lease_disk.proofs.doubts.Doubts.put_in_doubt.Given as goal

abbrev pub invariant-regions : goal.invariant-regions
invariant-regions l = record {
  listed : (q : ℕ) → in_doubt l.self q ≡ or_listed (take l.index l.regions) (in_doubt l.fn.self) q;
}
