use Rattle.std.proofs.Common.{◌≡◌, ◌<◌, ◌≤◌, ◌+◌, ◌*◌, ◌++◌, ℕ, List, map, take, length, drop, sym, ap, subst, ◌∙◌, arith}
use Rattle.std.specs.Prelude.{All, Option}
use Rattle.std.proofs.lemmas.List.{length-map}
use Rattle.config.specs.CircuitPart.{CircuitPart}
use Rattle.circuit_server.specs.Leases.{found_leases}
use Rattle.circuit_server.specs.Ticked.{state_at}
use Rattle.circuit_server.specs.CircuitServerValue.{HasFoundBook, HasItsPools, HasSettledRegion, IsReady, OpenCircuitValue, leases_of}
use Rattle.lease_disk.specs.Device.{IsCalledWithin}
use Rattle.dispatch.specs.Deadlines.{AreSetAnew}
use Rattle.dispatch.specs.Regions.{AreRegionsMigrated, AreSynced, KeepsOthers}
use Rattle.dispatch.specs.Restarted.{CanRestart}
use Rattle.dispatch.specs.ServerValue.{HoldsDeadlines, ServerValue, with_states}
use Rattle.dispatch.proofs.ServerLemmas.{written_through}
use Rattle.dispatch.proofs.TickLemmas.{not_ticked}
use Rattle.dispatch.proofs.server.Server.restart.Given as given
use Rattle.dispatch.proofs.server.Server.restart.Goals as goal

pub restart_all-requires-clause-can : goal.restart_all-requires-clause-can
restart_all-requires-clause-can g c =
    let device = g.D.Disk.device c.args.disk.now in
    subst (λ ps. CanRestart g.D.Disk.tells ps device) (sym c.parts.ensures)
    (record {
      regions = subst (λ (s : ServerValue). All (λ (part : CircuitPart). part.region < device.count) s.topology.circuits) (sym c.self.view_is) c.requires.regions;
      each = c.self.invariant.0.sound.parts;
      differ = c.self.invariant.0.sound.regions;
      synced = λ tells. subst (λ (s : ServerValue). AreSynced s.topology.circuits device.region) (sym c.self.view_is) (c.requires.synced tells);
    })

-- the states that show of all afterwards, which no tick has moved
abbrev after : (g : given.Over) (c : goal.After-self-3-1 g) → List (Option OpenCircuitValue)
after g c = map (state_at c.first-self-inside.result) (take c.self.inside.servers.len (c.restart_all.new.servers ++ drop (length c.restart_all.new.servers) c.self.inside.servers.items))

shown : (g : given.Over) (c : goal.After-self-3-1 g) → after g c ≡ c.restart_all.new.servers
shown g c =
    let rest = drop (length c.restart_all.new.servers) c.self.inside.servers.items in
    let written = take c.self.inside.servers.len (c.restart_all.new.servers ++ rest) in
    ap (λ now. map (state_at now) written) c.first-self-inside.ensures
    ∙ not_ticked written
    ∙ written_through c.self.inside.servers.len c.restart_all.new.servers rest (omega (arith, c.restart_all.ensures.size, c.deref_mut.ensures.len, c.self.inside.servers.ok.0))

pub invariant_of-self : goal.invariant_of-self
invariant_of-self g c = (
  record {
    sound = c.self.invariant.0.sound;
    size = ap length (shown g c) ∙ c.restart_all.ensures.size ∙ ap length c.deref_mut.ensures.value ∙ sym (length-map c.self.inside.servers.items (state_at c.self.inside.ticked)) ∙ c.self.invariant.0.size;
    pools = subst (λ xs. All HasItsPools (with_states c.self.inside.circuits.circuits xs)) (sym (shown g c)) (subst (λ ps. All HasItsPools (with_states ps c.restart_all.new.servers)) c.parts.ensures c.restart_all.ensures.restarted.pools);
  },
  subst (HoldsDeadlines c.restart_all.new.table) (sym (shown g c)) c.restart_all.ensures.table.held,
  ap length (written_through c.self.inside.buffer.len c.restart_all.new.buffer (drop (length c.restart_all.new.buffer) c.self.inside.buffer.items)
      (omega (arith, c.restart_all.ensures.buffer, c.self.invariant.2, c.self.inside.buffer.ok.0))) ∙ c.restart_all.ensures.buffer,
)

pub returns-clause-topology : goal.returns-clause-topology
returns-clause-topology g c = ap (λ (s : ServerValue). s.topology) c.self.view_is

pub returns-clause-leases : goal.returns-clause-leases
returns-clause-leases g c tells =
    let old = g.D.Disk.device c.args.disk.now in
    let later = (g.D.Disk.device c.restart_all.new.disk).region in
    ap (λ xs. map (leases_of later) (with_states c.self.inside.circuits.circuits xs)) (shown g c)
    ∙ ap (λ ps. map (leases_of later) (with_states ps c.restart_all.new.servers)) (sym c.parts.ensures)
    ∙ c.restart_all.ensures.restarted.leases tells
    ∙ ap (map (found_leases old.region old.failing_call)) c.parts.ensures
    ∙ ap (λ (s : ServerValue). map (found_leases old.region old.failing_call) s.topology.circuits) c.self.view_is

pub returns-clause-found : goal.returns-clause-found
returns-clause-found g c =
    subst (λ xs. All HasFoundBook (with_states c.self.inside.circuits.circuits xs)) (sym (shown g c))
    (subst (λ ps. All HasFoundBook (with_states ps c.restart_all.new.servers)) c.parts.ensures c.restart_all.ensures.restarted.found)

pub returns-clause-ready : goal.returns-clause-ready
returns-clause-ready g c tells =
    let later = (g.D.Disk.device c.restart_all.new.disk).region in
    subst (λ xs. All (IsReady later) (with_states c.self.inside.circuits.circuits xs)) (sym (shown g c))
    (subst (λ ps. All (IsReady later) (with_states ps c.restart_all.new.servers)) c.parts.ensures (c.restart_all.ensures.restarted.ready tells))

pub returns-clause-deadlines : goal.returns-clause-deadlines
returns-clause-deadlines g c = subst (AreSetAnew c.restart_all.new.table) (sym (shown g c)) c.restart_all.ensures.table.anew

pub returns-clause-regions : goal.returns-clause-regions
returns-clause-regions g c tells =
    subst (λ (s : ServerValue). AreRegionsMigrated s.topology.circuits (g.D.Disk.device c.args.disk.now) (g.D.Disk.device c.restart_all.new.disk)) c.self.view_is
    (subst (λ ps. AreRegionsMigrated ps (g.D.Disk.device c.args.disk.now) (g.D.Disk.device c.restart_all.new.disk)) c.parts.ensures (c.restart_all.ensures.restarted.regions tells))

pub returns-clause-others : goal.returns-clause-others
returns-clause-others g c tells =
    subst (λ (s : ServerValue). KeepsOthers s.topology.circuits (g.D.Disk.device c.args.disk.now) (g.D.Disk.device c.restart_all.new.disk)) c.self.view_is
    (subst (λ ps. KeepsOthers ps (g.D.Disk.device c.args.disk.now) (g.D.Disk.device c.restart_all.new.disk)) c.parts.ensures (c.restart_all.ensures.device.others tells))

pub returns-clause-count : goal.returns-clause-count
returns-clause-count g c = c.restart_all.ensures.device.count

pub returns-clause-settled : goal.returns-clause-settled
returns-clause-settled g c =
    let doubt = g.D.Disk.doubt c.restart_all.new.disk in
    subst (λ xs. All (HasSettledRegion doubt) (with_states c.self.inside.circuits.circuits xs)) (sym (shown g c))
    (subst (λ ps. All (HasSettledRegion doubt) (with_states ps c.restart_all.new.servers)) c.parts.ensures c.restart_all.ensures.restarted.settled)

pub returns-clause-calls : goal.returns-clause-calls
returns-clause-calls g c =
    let count = ap (λ (ps : List CircuitPart). length ps) c.parts.ensures ∙ ap (λ (s : ServerValue). length s.topology.circuits) c.self.view_is in
    subst (λ (n : ℕ). IsCalledWithin n (5 * n) (4 * n) (g.D.Disk.device c.args.disk.now) (g.D.Disk.device c.restart_all.new.disk)) count
    (record { least = c.restart_all.ensures.restarted.least; reads = c.restart_all.ensures.device.reads; writes = c.restart_all.ensures.device.writes })

pub returns-clause-examined : goal.returns-clause-examined
returns-clause-examined g c = c.restart_all.ensures.table.examined ∙ ap (λ (s : ServerValue). s.deadlines.examined) c.self.view_is
