use Rattle.std.proofs.Common.{take}
use Rattle.lease_disk.specs.Model.{region_of, stored_at}
use Rattle.lease_disk.specs.Region.{synced}
use Rattle.lease_disk.proofs.Listed.{AreChanged}
use Rattle.lease_disk.proofs.model_disk.clear_all.Given as goal

abbrev pub invariant-regions : goal.invariant-regions
invariant-regions l = record {
  synced : AreChanged synced (take l.index l.regions) (λ r. region_of (stored_at l.fn.stored r)) (λ r. region_of (stored_at l.stored r));
}
