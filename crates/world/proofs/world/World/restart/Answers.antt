use Rattle.std.proofs.Common.{◌≤◌, ℕ, length, refl, sym, ap, subst, ◌∙◌}
use Rattle.std.specs.Prelude.{All, slice_get}
use Rattle.config.specs.CircuitPart.{CircuitPart}
use Rattle.config.specs.Topology.{Topology}
use Rattle.circuit_server.specs.Leases.{IsRegionMigrated, counts_of}
use Rattle.dispatch.specs.Regions.{HasRegions, KeepsOthers}
use Rattle.dispatch.specs.ServerValue.{AreReady, leases_in}
use Rattle.lease_disk.specs.Model as disk
use Rattle.lease_disk.specs.Region.{Region}
use Rattle.events.specs.Seen.{Restart, comeback_at}
use Rattle.world.specs.StepsAs.{AllMove}
use Rattle.world.specs.World.{WorldValue, states}
use Rattle.events.specs.declared.outcome.Outcome.TheVariants as outcome
use Rattle.world.proofs.ServedLemmas.{are_synced, spares_then}
use Rattle.world.proofs.WorldLemmas.{all_restart, has_regions, still_world}
use Rattle.world.proofs.world.World.restart.Goals as goal

pub returns-clause-moves : goal.returns-clause-moves
returns-clause-moves c =
    let w : WorldValue = record { relays = c.self.inside.relays; net = c.self.inside.net; server = c.self.inside.server; disk = c.self.inside.disk } in
    let new : WorldValue = record w { server = c.restart.new.self; disk = c.clear_faults.new.disk } in
    let regions = disk.disk_region c.crash_all.new.disk in
    let faults = disk.failing_call_of c.crash_all.new.disk in
    let brought : All (λ (part : CircuitPart). IsRegionMigrated (counts_of part) (faults part.region) (regions part.region) (disk.disk_region new.disk part.region)) w.server.topology.circuits =
    subst (λ (states : ℕ → Region). All (λ (part : CircuitPart). IsRegionMigrated (counts_of part) (faults part.region) (regions part.region) (states part.region)) w.server.topology.circuits)
    (sym c.clear_faults.ensures.states) (c.restart.ensures.regions refl) in
    let P : WorldValue → Type 0 = λ v. AllMove (λ n. Restart (comeback_at n c.args.comebacks.now)) (states v) (states new) outcome.Done c.clear.new.self in
    subst P c.self.view_is (
    all_restart w new (λ n. comeback_at n c.args.comebacks.now) regions faults c.clear.new.self refl refl c.clear.ensures (ap (λ (t : Topology). t.circuits) c.restart.ensures.topology)
    (ap (λ regions. leases_in regions c.restart.new.self) c.clear_faults.ensures.states ∙ c.restart.ensures.leases refl) c.crash_all.ensures.crashed c.crash_all.ensures.faults
    (λ n part there. c.clear_faults.ensures.faults n part (ap (λ (t : Topology). slice_get t.circuits n) c.restart.ensures.topology ∙ there)) brought
    )

pub restart-requires-clause-synced : goal.restart-requires-clause-synced
restart-requires-clause-synced c = λ tells.
    are_synced c.self.inside.server.topology.circuits (λ n. comeback_at n c.args.comebacks.now) (disk.disk_region c.self.inside.disk) (disk.disk_region c.crash_all.new.disk) c.crash_all.ensures.crashed

pub invariant_of-self : goal.invariant_of-self
invariant_of-self c =
    let w : WorldValue = record { relays = c.self.inside.relays; net = c.self.inside.net; server = c.self.inside.server; disk = c.self.inside.disk } in
    let new : WorldValue = record w { server = c.restart.new.self; disk = c.clear_faults.new.disk } in
    let is = c.self.invariant in
    still_world w new is refl c.restart.ensures.topology refl (c.clear_faults.ensures.count ∙ c.restart.ensures.count ∙ c.crash_all.ensures.count)
    (subst (λ regions. AreReady regions c.restart.new.self) (sym c.clear_faults.ensures.states) (c.restart.ensures.ready refl)) is.addressed is.returned

pub clear_faults-requires-clause-regions : goal.clear_faults-requires-clause-regions
clear_faults-requires-clause-regions c =
    let w : WorldValue = record { relays = c.self.inside.relays; net = c.self.inside.net; server = c.self.inside.server; disk = c.self.inside.disk } in
    subst (λ (t : Topology). HasRegions t.circuits (length c.restart.new.disk.regions)) (sym c.restart.ensures.topology)
    (subst (HasRegions w.server.topology.circuits) (sym (c.restart.ensures.count ∙ c.crash_all.ensures.count)) (has_regions w c.self.invariant))

pub clear_faults-requires-clause-few : goal.clear_faults-requires-clause-few
clear_faults-requires-clause-few c = subst (λ (t : Topology). length t.circuits ≤ 1024) (sym (c.restart.ensures.topology ∙ c.self.invariant.served)) c.self.invariant.sound.few_circuits

pub returns-clause-others : goal.returns-clause-others
returns-clause-others c =
    let w : WorldValue = record { relays = c.self.inside.relays; net = c.self.inside.net; server = c.self.inside.server; disk = c.self.inside.disk } in
    let first = disk.device_of c.crash_all.new.disk in
    let middle = disk.device_of c.restart.new.disk in
    let new = disk.device_of c.clear_faults.new.disk in
    let P : WorldValue → Type 0 = λ v. KeepsOthers v.relays.topology.circuits (disk.device_of v.disk) new in
    subst P c.self.view_is
    (subst (λ (t : Topology). KeepsOthers t.circuits (disk.device_of w.disk) new) c.self.invariant.served
    (spares_then w.server.topology.circuits (disk.device_of w.disk) middle new
    (spares_then w.server.topology.circuits (disk.device_of w.disk) first middle c.crash_all.ensures.others (c.restart.ensures.others refl))
    (subst (λ (t : Topology). KeepsOthers t.circuits middle new) c.restart.ensures.topology c.clear_faults.ensures.others)))
