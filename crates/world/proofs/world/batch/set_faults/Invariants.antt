use Rattle.std.proofs.Common.{◌≡◌, drop, length}
use Rattle.lease_disk.specs.Model.{failing_call_of, disk_region}
use Rattle.world.specs.Batch.{faults_after}
use Rattle.world.proofs.world.batch.set_faults.Given as goal

-- the faults of the parts so far are set
abbrev pub invariant-parts : goal.invariant-parts
invariant-parts l = record {
  count : length l.disk.regions ≡ length l.fn.disk.regions;
  states : disk_region l.disk ≡ disk_region l.fn.disk;
  faults : faults_after l.fails (drop l.index l.waiting) (failing_call_of l.disk) ≡ faults_after l.fails l.waiting (failing_call_of l.fn.disk);
}
