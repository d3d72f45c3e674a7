use Rattle.std.proofs.Common.{◌≡◌, ◌<◌, ℕ, length}
use Rattle.lease_disk.specs.Crash.{formatted_region}
use Rattle.lease_disk.specs.Model.{region_of, stored_at}
use Rattle.lease_disk.proofs.model_disk.ModelDisk.new.Given as goal

abbrev pub invariant-regions : goal.invariant-regions
invariant-regions l = record {
  count : length l.stored.items ≡ l.counter;
  formatted : (q : ℕ) → q < l.counter → region_of (stored_at l.stored.items q) ≡ formatted_region;
}
