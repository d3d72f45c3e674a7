use Rattle.std.proofs.Common.{◌+◌, take}
use Rattle.lease_disk.specs.Failures.{count_in}
use Rattle.lease_disk.proofs.Listed.{AreChanged}
use Rattle.lease_disk.proofs.failures.Failures.note_all.Given as goal

abbrev pub invariant-regions : goal.invariant-regions
invariant-regions l = record {
  changed : AreChanged (λ n. n + 1) (take l.index l.regions) (count_in l.fn.self.regions) (count_in l.self.regions);
}
