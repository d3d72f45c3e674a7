use Rattle.std.proofs.Common.{◌≡◌, ◌-◌, ◌==◌, take, slice_index}
use Rattle.std.specs.List.{list_any}
use Rattle.lease_disk.proofs.Listed.{AreChanged}
use Rattle.lease_disk.proofs.model_disk.burn_all.Given as goal

abbrev pub invariant-regions : goal.invariant-regions
invariant-regions l = record {
  failing_calls : AreChanged (λ n. n - 1) (take l.index l.regions) (slice_index l.fn.failing_calls) (slice_index l.failing_calls);
  fails : l.fails ≡ list_any (λ r. slice_index l.fn.failing_calls r == 1) (take l.index l.regions);
}
