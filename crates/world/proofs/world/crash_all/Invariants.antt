use Rattle.std.proofs.Common.{◌≡◌, ℕ, ◌<◌, ◌≤◌, length}
use Rattle.std.specs.Prelude.{Some, slice_get}
use Rattle.config.specs.CircuitPart.{CircuitPart}
use Rattle.lease_disk.specs.Crash.{crashed}
use Rattle.lease_disk.specs.Model.{device_of, failing_call_of, disk_region}
use Rattle.dispatch.specs.Regions.{KeepsOthers}
use Rattle.events.specs.Seen.{comeback_at}
use Rattle.world.proofs.world.crash_all.Given as goal

-- the regions of the circuits so far are as their images say, and those of the others as they were
abbrev pub invariant-circuits : goal.invariant-circuits
invariant-circuits l = record {
  count : length l.disk.regions ≡ length l.fn.disk.regions;
  others : KeepsOthers l.server.topology.circuits (device_of l.fn.disk) (device_of l.disk);
  done : (c : ℕ) (part : CircuitPart) → slice_get l.server.topology.circuits c ≡ Some part → c < l.index → disk_region l.disk part.region ≡ crashed (comeback_at c l.comebacks).image (disk_region l.fn.disk part.region);
  faults : (c : ℕ) (part : CircuitPart) → slice_get l.server.topology.circuits c ≡ Some part → c < l.index → failing_call_of l.disk part.region ≡ (comeback_at c l.comebacks).move_fault;
  later : (c : ℕ) (part : CircuitPart) → slice_get l.server.topology.circuits c ≡ Some part → l.index ≤ c → disk_region l.disk part.region ≡ disk_region l.fn.disk part.region;
}
