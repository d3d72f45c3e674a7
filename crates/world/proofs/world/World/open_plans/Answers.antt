use Rattle.std.proofs.Common.{◌≡◌, ℕ, length, refl, sym, ap, subst, ◌∙◌, arith}
use Rattle.std.specs.Prelude.{All}
use Rattle.config.specs.CircuitPart.{CircuitPart, parts_of}
use Rattle.settings.specs.Settings.{Settings}
use Rattle.config.specs.Topology.{Topology}
use Rattle.circuit_server.specs.Leases.{IsRegionMigrated, counts_of}
use Rattle.dispatch.specs.Regions.{HasRegions, KeepsOthers}
use Rattle.dispatch.specs.ServerValue.{AreReady, leases_in}
use Rattle.lease_disk.specs.Region.{Region}
use Rattle.lease_disk.specs.Model as disk
use Rattle.world.specs.Start.{Starts}
use Rattle.world.specs.World.{WorldValue, states}
use Rattle.world.proofs.StartLemmas.{opens, starts}
use Rattle.world.proofs.ServedLemmas.{spares_then}
use Rattle.world.proofs.world.World.open_plans.Goals as goal

pub over-requires : goal.over-requires
over-requires c =
    let w : WorldValue = record { relays = c.in-Ok.relays; net = c.in-Ok-new.net; server = c.in-Ok-open_plans.server; disk = c.open_plans.new.disk } in
    opens c.args.plans.now c.args.quota w c.in-Ok.ensures.sound c.in-Ok.ensures.topology c.in-Ok-open_plans.ensures.topology
    (disk.device_of c.args.disk) (c.in-Ok-open_plans.ensures.leases refl) c.in-Ok-open_plans.ensures.large (c.in-Ok-open_plans.ensures.ready refl)
    (c.in-Ok-new.ensures.circuits ∙ c.circuit_count-count.ensures.value ∙ ap (λ (s : Settings). length s.circuits) c.union.ensures) c.in-Ok-new.ensures.empty

pub returns-in-Ok-open_plans-clause-starts : goal.returns-in-Ok-open_plans-clause-starts
returns-in-Ok-open_plans-clause-starts c =
    let world = c.over.result in
    let w : WorldValue = record { relays = c.in-Ok.relays; net = c.in-Ok-new.net; server = c.in-Ok-open_plans.server; disk = world.disk } in
    let same : world ≡ w = λ i. record { relays = c.over.ensures.relays i; net = c.over.ensures.net i; server = c.over.ensures.server i; disk = world.disk } in
    subst (λ (v : WorldValue). Starts c.args.plans.now c.args.quota (disk.device_of c.args.disk) (states v)) (sym same) (
    starts c.args.plans.now c.args.quota w c.in-Ok.ensures.sound c.in-Ok.ensures.topology c.in-Ok-open_plans.ensures.topology
    (disk.device_of c.args.disk) (ap (λ regions. leases_in regions c.in-Ok-open_plans.server) c.over.ensures.states ∙ c.in-Ok-open_plans.ensures.leases refl)
    (subst (HasRegions (parts_of c.args.plans.now.union)) (sym c.over.ensures.count) c.in-Ok-open_plans.ensures.large)
    (subst (λ regions. AreReady regions c.in-Ok-open_plans.server) (sym c.over.ensures.states) (c.in-Ok-open_plans.ensures.ready refl))
    (c.in-Ok-new.ensures.circuits ∙ c.circuit_count-count.ensures.value ∙ ap (λ (s : Settings). length s.circuits) c.union.ensures) c.in-Ok-new.ensures.empty
    (c.in-Ok-new.ensures.quota ∙ c.from.ensures)
    )

pub returns-in-Ok-open_plans-clause-regions : goal.returns-in-Ok-open_plans-clause-regions
returns-in-Ok-open_plans-clause-regions c =
    subst (λ (regions : ℕ → Region). All (λ (part : CircuitPart). IsRegionMigrated (counts_of part) (disk.failing_call_of c.args.disk part.region) (disk.disk_region c.args.disk part.region) (regions part.region)) (parts_of c.args.plans.now.union))
    (sym c.over.ensures.states) (c.in-Ok-open_plans.ensures.regions refl)

pub returns-in-Ok-open_plans-clause-others : goal.returns-in-Ok-open_plans-clause-others
returns-in-Ok-open_plans-clause-others c =
    let parts = parts_of c.args.plans.now.union in
    spares_then parts (disk.device_of c.args.disk) (disk.device_of c.open_plans.new.disk) (disk.device_of c.over.result.disk)
    (c.in-Ok-open_plans.ensures.others refl)
    (subst (λ (t : Topology). KeepsOthers t.circuits (disk.device_of c.open_plans.new.disk) (disk.device_of c.over.result.disk)) c.in-Ok-open_plans.ensures.topology c.over.ensures.others)

pub returns-in-Ok-open_plans-clause-large : goal.returns-in-Ok-open_plans-clause-large
returns-in-Ok-open_plans-clause-large c = subst (HasRegions (parts_of c.args.plans.now.union)) c.in-Ok-open_plans.ensures.count c.in-Ok-open_plans.ensures.large

pub returns-in-Ok-open_plans-clause-reads : goal.returns-in-Ok-open_plans-clause-reads
returns-in-Ok-open_plans-clause-reads c = omega (arith, c.over.ensures.reads, c.in-Ok-open_plans.ensures.calls.reads)

pub returns-in-Ok-open_plans-clause-writes : goal.returns-in-Ok-open_plans-clause-writes
returns-in-Ok-open_plans-clause-writes c = omega (arith, c.over.ensures.writes, c.in-Ok-open_plans.ensures.calls.writes)
