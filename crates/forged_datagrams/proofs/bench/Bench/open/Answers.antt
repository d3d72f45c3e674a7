use Rattle.std.proofs.Common.{length, sym, subst}
use Rattle.config.specs.Topology.{Topology}
use Rattle.dispatch.specs.Regions.{HasRegions}
use Rattle.forged_datagrams.proofs.bench.Bench.open.Goals as goal

pub invariant_of-result : goal.invariant_of-result
invariant_of-result c = record {
  own = c.in-Ok-new.ensures.topology;
  has_regions = subst (λ (t : Topology). HasRegions t.circuits (length c.«open».new.disk.disk.regions)) (sym c.in-Ok-open.ensures.topology) c.in-Ok-open.ensures.large;
}
