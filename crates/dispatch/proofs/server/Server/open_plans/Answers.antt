use Rattle.std.proofs.Common.{◌≡◌, ℕ, ◌*◌, length, map, sym, ap, subst, ◌∙◌, arith, Result, Ok, Err}
use Rattle.std.specs.Prelude.{IfErr, IfOk}
use Rattle.std.proofs.lemmas.List.{length-map}
use Rattle.config.specs.Plans.{PlansValue}
use Rattle.config.specs.Topology.{IsTopology, Topology, plans_topology}
use Rattle.circuit_server.specs.Leases.{found_leases}
use Rattle.lease_disk.specs.Device.{IsCalledWithin}
use Rattle.dispatch.specs.Regions.{AreRegionsMigrated, AreSynced, HasRegions, KeepsOthers}
use Rattle.dispatch.specs.ServerValue.{leases_in}
use Rattle.dispatch.specs.declared.server.OpenFault.TheVariants as fault
use Rattle.std.proofs.lemmas.Result.{IfOk-weaker}
use Rattle.dispatch.proofs.server.Server.open_plans.Goals as goal

same_count : (plans : PlansValue) (topology : Topology) → topology ≡ plans_topology plans → length topology.circuits ≡ length plans.union.circuits
same_count plans topology same = ap (λ (t : Topology). length t.circuits) same ∙ length-map plans.union.circuits _

pub over-requires-clause-some : goal.over-requires-clause-some
over-requires-clause-some g c = omega (arith, same_count c.args.plans.now c.in-Ok.circuits c.in-Ok.ensures.topology, c.in-Ok.ensures.rules.some_circuit)

pub over-requires-clause-sound : goal.over-requires-clause-sound
over-requires-clause-sound g c = subst IsTopology (sym c.in-Ok.ensures.topology) c.in-Ok.ensures.sound

pub over-requires-clause-synced : goal.over-requires-clause-synced
over-requires-clause-synced g c tells =
    subst (λ (t : Topology). AreSynced t.circuits (g.D.Disk.device c.args.disk.now).region) (sym c.in-Ok.ensures.topology) (c.requires.synced tells)

pub returns-clause-topology : goal.returns-clause-topology
returns-clause-topology g c = subst (λ (t : Topology). IfOk c.over.result (λ server. server.topology ≡ t)) c.in-Ok.ensures.topology c.over.ensures.topology

in_any : {T E : Type 0} (result : Result T E) (P : Type 0) → P → IfOk result (λ any. P)
in_any (Ok value) P holds = holds
in_any (Err why) P holds = tt

pub returns-clause-sound : goal.returns-clause-sound
returns-clause-sound g c = in_any c.over.result (IsTopology (plans_topology c.args.plans.now)) c.in-Ok.ensures.sound

pub returns-clause-leases : goal.returns-clause-leases
returns-clause-leases g c tells =
    let old = g.D.Disk.device c.args.disk.now in
    let new = g.D.Disk.device c.over.new.disk in
    subst (λ (t : Topology). IfOk c.over.result (λ server. leases_in new.region server ≡ map (found_leases old.region old.failing_call) t.circuits)) c.in-Ok.ensures.topology (IfOk-weaker c.over.result _ _ (λ server opened. opened.leases tells) c.over.ensures.opened)

pub returns-clause-large : goal.returns-clause-large
returns-clause-large g c =
    subst (λ (t : Topology). IfOk c.over.result (λ server. HasRegions t.circuits (g.D.Disk.device c.over.new.disk).count)) c.in-Ok.ensures.topology (IfOk-weaker c.over.result _ _ (λ server opened. opened.large) c.over.ensures.opened)

pub returns-clause-small : goal.returns-clause-small
returns-clause-small g c =
    subst (λ (t : Topology). IfErr c.over.result (λ why. why ≡ fault.DiskTooSmall → ¬ HasRegions t.circuits (g.D.Disk.device c.args.disk.now).count)) c.in-Ok.ensures.topology c.over.ensures.small

pub returns-clause-regions : goal.returns-clause-regions
returns-clause-regions g c tells =
    let old = g.D.Disk.device c.args.disk.now in
    let new = g.D.Disk.device c.over.new.disk in
    subst (λ (t : Topology). IfOk c.over.result (λ server. AreRegionsMigrated t.circuits old new)) c.in-Ok.ensures.topology (IfOk-weaker c.over.result _ _ (λ server opened. opened.regions tells) c.over.ensures.opened)

pub returns-clause-others : goal.returns-clause-others
returns-clause-others g c tells =
    let old = g.D.Disk.device c.args.disk.now in
    let new = g.D.Disk.device c.over.new.disk in
    subst (λ (t : Topology). KeepsOthers t.circuits old new) c.in-Ok.ensures.topology (c.over.ensures.device.others tells)

pub returns-clause-calls : goal.returns-clause-calls
returns-clause-calls g c =
    let old = g.D.Disk.device c.args.disk.now in
    let new = g.D.Disk.device c.over.new.disk in
    subst (λ (n : ℕ). IfOk c.over.result (λ server. IsCalledWithin n (5 * n) (4 * n) old new)) (same_count c.args.plans.now c.in-Ok.circuits c.in-Ok.ensures.topology)
    (IfOk-weaker c.over.result _ _ (λ server opened. record { least = opened.least; reads = c.over.ensures.device.reads; writes = c.over.ensures.device.writes }) c.over.ensures.opened)

pub returns-clause-settled : goal.returns-clause-settled
returns-clause-settled g c = IfOk-weaker c.over.result _ _ (λ server opened. opened.settled) c.over.ensures.opened

pub returns-clause-ready : goal.returns-clause-ready
returns-clause-ready g c tells = IfOk-weaker c.over.result _ _ (λ server opened. opened.ready tells) c.over.ensures.opened

pub returns-clause-deadlines : goal.returns-clause-deadlines
returns-clause-deadlines g c = IfOk-weaker c.over.result _ _ (λ server opened. opened.deadlines) c.over.ensures.opened

pub returns-clause-count : goal.returns-clause-count
returns-clause-count g c = c.over.ensures.device.count

pub returns-clause-found : goal.returns-clause-found
returns-clause-found g c = IfOk-weaker c.over.result _ _ (λ server opened. opened.found) c.over.ensures.opened
