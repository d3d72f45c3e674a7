use Rattle.std.proofs.Common.{length, sym, subst}
use Rattle.config.specs.Topology.{Topology}
use Rattle.dispatch.specs.Regions.{HasRegions}
use Rattle.dispatch.specs.ServerValue.{ServerValue}
use Rattle.forged_datagrams.proofs.bench.Bench.reopen.Goals as goal

pub invariant_of-self-2 : goal.invariant_of-self-2
invariant_of-self-2 c =
    let regions = length c.open.new.disk.disk.regions in
    let opened = subst (λ (t : Topology). HasRegions t.circuits regions) (sym c.in-Ok.ensures.topology) c.in-Ok.ensures.large in
    record {
      own = c.args.self.now.own;
      has_regions = subst (λ (s : ServerValue). HasRegions s.topology.circuits regions) (sym c.replace.ensures.after) opened;
    }
