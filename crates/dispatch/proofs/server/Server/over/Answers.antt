use Rattle.std.proofs.Common.{◌≤◌, ◌+◌, ◌*◌, map, length, refl, sym, ap, subst, ◌∙◌}
use Rattle.config.specs.Topology.{Topology}
use Rattle.circuit_server.specs.Leases.{found_leases}
use Rattle.dispatch.specs.Regions.{AreRegionsMigrated, AreSynced, HasRegions, KeepsOthers}
use Rattle.dispatch.specs.ServerValue.{ServerValue}
use Rattle.dispatch.proofs.server.Server.over.Goals as goal

-- whether the device has the regions

pub returns-then-not-has_regions-clause-small : goal.returns-then-not-has_regions-clause-small
returns-then-not-has_regions-clause-small g c = λ e has.
    let parts = c.parts.ensures ∙ ap (λ (s : ServerValue). s.topology.circuits) c.server.view_is ∙ ap (λ (t : Topology). t.circuits) c.in-Ok.ensures in
    c.if-not-has_regions.ensures.no refl (subst (HasRegions c.parts.result.now) (sym c.regions.ensures) (subst (λ ps. HasRegions ps (g.D.Disk.device c.args.disk.now).count) (sym parts) has))

pub restart-requires-clause-regions : goal.restart-requires-clause-regions
restart-requires-clause-regions g c =
    let parts = c.parts.ensures ∙ ap (λ (s : ServerValue). s.topology.circuits) c.server.view_is in
    subst (λ ps. HasRegions ps (g.D.Disk.device c.args.disk.now).count) parts (subst (HasRegions c.parts.result.now) c.regions.ensures (c.if-not-has_regions.ensures.yes refl))

-- what the restart of all makes of it

pub restart-requires-clause-synced : goal.restart-requires-clause-synced
restart-requires-clause-synced g c tells = subst (λ (t : Topology). AreSynced t.circuits (g.D.Disk.device c.args.disk.now).region) (sym c.in-Ok.ensures) (c.requires.synced tells)

pub returns-clause-topology : goal.returns-clause-topology
returns-clause-topology g c = c.restart.ensures.topology ∙ c.in-Ok.ensures

pub returns-clause-opened : goal.returns-clause-opened
returns-clause-opened g c =
    let old = g.D.Disk.device c.args.disk.now in
    let new = g.D.Disk.device c.restart.new.disk in
    let parts = c.parts.ensures ∙ ap (λ (s : ServerValue). s.topology.circuits) c.server.view_is ∙ ap (λ (t : Topology). t.circuits) c.in-Ok.ensures in
    record {
      leases = λ tells. c.restart.ensures.leases tells ∙ ap (λ (t : Topology). map (found_leases old.region old.failing_call) t.circuits) c.in-Ok.ensures;
      ready = c.restart.ensures.ready;
      deadlines = c.restart.ensures.deadlines;
      found = c.restart.ensures.found;
      large =
          subst (HasRegions c.args.circuits.circuits) (sym c.restart.ensures.count)
          (subst (λ ps. HasRegions ps old.count) parts (subst (HasRegions c.parts.result.now) c.regions.ensures (c.if-not-has_regions.ensures.yes refl)));
      regions = λ tells. subst (λ (t : Topology). AreRegionsMigrated t.circuits old new) c.in-Ok.ensures (c.restart.ensures.regions tells);
      settled = c.restart.ensures.settled;
      least = subst (λ (t : Topology). old.reads + length t.circuits ≤ new.reads) c.in-Ok.ensures c.restart.ensures.calls.least;
    }

pub returns-clause-device : goal.returns-clause-device
returns-clause-device g c =
    let old = g.D.Disk.device c.args.disk.now in
    let new = g.D.Disk.device c.restart.new.disk in
    record {
      others = λ tells. subst (λ (t : Topology). KeepsOthers t.circuits old new) c.in-Ok.ensures (c.restart.ensures.others tells);
      count = c.restart.ensures.count;
      reads = subst (λ (t : Topology). new.reads ≤ old.reads + 5 * length t.circuits) c.in-Ok.ensures c.restart.ensures.calls.reads;
      writes = subst (λ (t : Topology). new.writes ≤ old.writes + 4 * length t.circuits) c.in-Ok.ensures c.restart.ensures.calls.writes;
    }
