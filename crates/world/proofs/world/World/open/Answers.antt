use Rattle.std.proofs.Common.{◌≡◌, ℕ, refl, sym, ap, subst, ◌∙◌, arith}
use Rattle.std.specs.Prelude.{All}
use Rattle.config.specs.CircuitPart.{CircuitPart, parts_of}
use Rattle.config.specs.Plans.{one_plan}
use Rattle.config.specs.Topology.{Topology}
use Rattle.circuit_server.specs.Leases.{IsRegionMigrated, counts_of}
use Rattle.dispatch.specs.Regions.{HasRegions, KeepsOthers}
use Rattle.dispatch.specs.ServerValue.{AreReady, leases_in}
use Rattle.lease_disk.specs.Region.{Region}
use Rattle.lease_disk.specs.Model as disk
use Rattle.world.specs.Start.{Starts}
use Rattle.world.specs.World.{WorldValue, states}
use Rattle.world.proofs.StartLemmas.{opens, starts}
use Rattle.world.proofs.ServedLemmas.{spares_then}
use Rattle.world.proofs.world.World.open.Goals as goal

pub over-requires : goal.over-requires
over-requires c =
    let w : WorldValue = record { relays = c.in-Ok.relays; net = c.in-Ok-new.net; server = c.in-Ok-open.server; disk = c.open.new.disk } in
    opens (one_plan c.args.config.now) c.args.quota w c.in-Ok.ensures.sound c.in-Ok.ensures.topology c.in-Ok-open.ensures.topology
    (disk.device_of c.args.disk) (c.in-Ok-open.ensures.leases refl) c.in-Ok-open.ensures.large (c.in-Ok-open.ensures.ready refl)
    (c.in-Ok-new.ensures.circuits ∙ c.circuit_count.ensures.value) c.in-Ok-new.ensures.empty

pub returns-in-Ok-open-clause-starts : goal.returns-in-Ok-open-clause-starts
returns-in-Ok-open-clause-starts c =
    let world = c.over.result in
    let w : WorldValue = record { relays = c.in-Ok.relays; net = c.in-Ok-new.net; server = c.in-Ok-open.server; disk = world.disk } in
    let same : world ≡ w = λ i. record { relays = c.over.ensures.relays i; net = c.over.ensures.net i; server = c.over.ensures.server i; disk = world.disk } in
    subst (λ (v : WorldValue). Starts (one_plan c.args.config.now) c.args.quota (disk.device_of c.args.disk) (states v)) (sym same) (
    starts (one_plan c.args.config.now) c.args.quota w c.in-Ok.ensures.sound c.in-Ok.ensures.topology c.in-Ok-open.ensures.topology
    (disk.device_of c.args.disk) (ap (λ regions. leases_in regions c.in-Ok-open.server) c.over.ensures.states ∙ c.in-Ok-open.ensures.leases refl)
    (subst (HasRegions (parts_of c.args.config.now)) (sym c.over.ensures.count) c.in-Ok-open.ensures.large)
    (subst (λ regions. AreReady regions c.in-Ok-open.server) (sym c.over.ensures.states) (c.in-Ok-open.ensures.ready refl))
    (c.in-Ok-new.ensures.circuits ∙ c.circuit_count.ensures.value) c.in-Ok-new.ensures.empty
    (c.in-Ok-new.ensures.quota ∙ c.from.ensures)
    )

pub returns-in-Ok-open-clause-regions : goal.returns-in-Ok-open-clause-regions
returns-in-Ok-open-clause-regions c =
    subst (λ (regions : ℕ → Region). All (λ (part : CircuitPart). IsRegionMigrated (counts_of part) (disk.failing_call_of c.args.disk part.region) (disk.disk_region c.args.disk part.region) (regions part.region)) (parts_of c.args.config.now))
    (sym c.over.ensures.states) (c.in-Ok-open.ensures.regions refl)

pub returns-in-Ok-open-clause-others : goal.returns-in-Ok-open-clause-others
returns-in-Ok-open-clause-others c =
    let parts = parts_of c.args.config.now in
    spares_then parts (disk.device_of c.args.disk) (disk.device_of c.open.new.disk) (disk.device_of c.over.result.disk)
    (c.in-Ok-open.ensures.others refl)
    (subst (λ (t : Topology). KeepsOthers t.circuits (disk.device_of c.open.new.disk) (disk.device_of c.over.result.disk)) c.in-Ok-open.ensures.topology c.over.ensures.others)

pub returns-in-Ok-open-clause-large : goal.returns-in-Ok-open-clause-large
returns-in-Ok-open-clause-large c = subst (HasRegions (parts_of c.args.config.now)) c.in-Ok-open.ensures.count c.in-Ok-open.ensures.large

pub returns-in-Ok-open-clause-reads : goal.returns-in-Ok-open-clause-reads
returns-in-Ok-open-clause-reads c = omega (arith, c.over.ensures.reads, c.in-Ok-open.ensures.calls.reads)

pub returns-in-Ok-open-clause-writes : goal.returns-in-Ok-open-clause-writes
returns-in-Ok-open-clause-writes c = omega (arith, c.over.ensures.writes, c.in-Ok-open.ensures.calls.writes)
