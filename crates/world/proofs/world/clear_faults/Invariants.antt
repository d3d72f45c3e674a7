use Rattle.std.proofs.Common.{◌≡◌, ℕ, ◌<◌, length}
use Rattle.std.specs.Prelude.{Some, slice_get}
use Rattle.config.specs.CircuitPart.{CircuitPart}
use Rattle.lease_disk.specs.Model.{device_of, failing_call_of, disk_region}
use Rattle.dispatch.specs.Regions.{KeepsOthers}
use Rattle.world.proofs.world.clear_faults.Given as goal

-- no call fails for the circuits so far
abbrev pub invariant-circuits : goal.invariant-circuits
invariant-circuits l = record {
  count : length l.disk.regions ≡ length l.fn.disk.regions;
  reads : l.disk.reads ≡ l.fn.disk.reads;
  writes : l.disk.writes ≡ l.fn.disk.writes;
  others : KeepsOthers l.server.topology.circuits (device_of l.fn.disk) (device_of l.disk);
  states : disk_region l.disk ≡ disk_region l.fn.disk;
  faults : (c : ℕ) (part : CircuitPart) → slice_get l.server.topology.circuits c ≡ Some part → c < l.index → failing_call_of l.disk part.region ≡ 0;
}
