use Rattle.std.proofs.Common.{◌≡◌, ℕ, ◌++◌, nat_lt, true, false, List, map, take, drop, length, sym, ap, subst, ◌∙◌, rules}
use Rattle.std.specs.Prelude.{All, None, Option, Some, slice_get}
use Rattle.std.proofs.lemmas.Option.{get_or_from_slice_get, slice_get_within}
use Rattle.config.specs.CircuitPart.{CircuitPart}
use Rattle.config.specs.Membership.{has}
use Rattle.config.specs.Topology.{IsTopology, Topology, serves}
use Rattle.circuit_server.specs.Deadlines.{held_in}
use Rattle.circuit_server.specs.Leases.{turned}
use Rattle.circuit_server.specs.CircuitServerValue.{HasItsPools, IsReady, OpenCircuitValue, leases_of}
use Rattle.dispatch.proofs.ServerLemmas.{written_through}
use Rattle.dispatch.specs.ServerValue.{ServerValue, circuits_in, leases_in, with_states}
use Rattle.circuit_server.specs.Ticked.{state_at, server_state}
use Rattle.dispatch.specs.Turned.{AreTurned, state_turned, turns_off}
use Rattle.dispatch.proofs.TurnedLemmas.{all_pools, all_ready, as_before, leases_at, same_state, serves_after, still_topology, turns}
use Rattle.dispatch.proofs.server.Server.reload.Goals as goal
use Rattle.dispatch.proofs.server.Server.reload.Goals.{After-reload}

-- the states that show of all, before and after
abbrev before : (c : After-reload) → List (Option OpenCircuitValue)
before c = map (state_at c.self.inside.ticked) c.self.inside.servers.items

abbrev written : (c : After-reload) → List (Option OpenCircuitValue)
written c = take c.self.inside.servers.len (c.turn_off_all.new.servers ++ drop (length c.turn_off_all.new.servers) c.self.inside.servers.items)

abbrev after : (c : After-reload) → List (Option OpenCircuitValue)
after c = map (state_at c.self.inside.ticked) (written c)

-- they were turned off through the slice of all
all_turned : (c : After-reload) → AreTurned (turns_off c.self.inside.circuits c.from-number.result) (before c) (after c) c.self.inside.deadlines c.turn_off_all.new.table
all_turned c =
    let rest = drop (length c.turn_off_all.new.servers) c.self.inside.servers.items in
    let all = written_through c.self.inside.servers.len c.turn_off_all.new.servers rest (search rules) in
    let turned = subst (λ xs. AreTurned (turns_off c.self.inside.circuits c.from-number.result) (map (state_at c.self.inside.ticked) xs) (map (state_at c.self.inside.ticked) c.turn_off_all.new.servers) c.self.inside.deadlines c.turn_off_all.new.table) c.deref_mut.ensures.value c.turn_off_all.ensures in
    subst (λ xs. AreTurned (turns_off c.self.inside.circuits c.from-number.result) (before c) (map (state_at c.self.inside.ticked) xs) c.self.inside.deadlines c.turn_off_all.new.table) (sym all) turned

-- there is such a plan
there : (c : After-reload) → nat_lt c.from-number.result c.self.inside.circuits.plans.count ≡ true
there c = sym c.has_plan.ensures ∙ c.if-not-has_plan.false

serves_new : (c : After-reload) (k : ℕ) → serves c.reload.new.self k ≡ has c.self.inside.circuits.plans c.from-number.result k
serves_new c k = ap (λ t. serves t k) c.reload.ensures.value ∙ serves_after c.from-number.result c.self.inside.circuits k (there c)

-- a circuit that is served as before does not turn off
stays : (c : After-reload) (k : ℕ) → serves c.self.inside.circuits k ≡ serves c.reload.new.self k → turns_off c.self.inside.circuits c.from-number.result k ≡ false
stays c k same = as_before (serves c.self.inside.circuits k) (has c.self.inside.circuits.plans c.from-number.result k) (same ∙ serves_new c k)

same_parts : (c : After-reload) → c.reload.new.self.circuits ≡ c.self.inside.circuits.circuits
same_parts c = ap (λ (t : Topology). t.circuits) c.reload.ensures.value

pub invariant_of-self : goal.invariant_of-self
invariant_of-self c =
    let parts = c.self.inside.circuits.circuits in
    let turned = all_turned c in (
      record {
        sound = subst IsTopology (sym c.reload.ensures.value) (still_topology c.from-number.result c.self.inside.circuits c.self.invariant.0.sound);
        size = turned.count ∙ c.self.invariant.0.size ∙ ap (λ (ps : List CircuitPart). length ps) (sym (same_parts c));
        pools =
            subst (λ ps. All HasItsPools (with_states ps (after c))) (sym (same_parts c))
            (all_pools _ parts (before c) (after c) c.self.invariant.0.size turned.count turned.states c.self.invariant.0.pools);
      },
      turned.held,
      c.self.invariant.2,
    )

pub returns-clause-leases : goal.returns-clause-leases
returns-clause-leases c regions k l =
    let t = c.self.inside.circuits in
    let n = c.from-number.result in
    let new = after c in
    let P : ServerValue → Type 0 = λ s.
    slice_get (leases_in regions s) k ≡ Some l → slice_get (map (leases_of regions) (with_states c.reload.new.self.circuits new)) k ≡ Some (turned (serves s.topology k) (serves c.reload.new.self k) l) in
    subst P c.self.view_is
    (λ was.
    ap (λ ps. slice_get (map (leases_of regions) (with_states ps new)) k) (same_parts c)
    ∙ leases_at regions t.circuits (before c) new k (serves t k) (has t.plans n k) ((all_turned c).states k) l was
    ∙ ap (λ now. Some (turned (serves t k) now l)) (sym (serves_new c k)))

pub returns-clause-ready : goal.returns-clause-ready
returns-clause-ready c regions =
    let turned = all_turned c in
    let parts = c.self.inside.circuits.circuits in
    let P : ServerValue → Type 0 = λ s. All (IsReady regions) (circuits_in s) → All (IsReady regions) (with_states c.reload.new.self.circuits (after c)) in
    subst P c.self.view_is
    (λ ready.
    subst (λ ps. All (IsReady regions) (with_states ps (after c))) (sym (same_parts c))
    (all_ready _ parts (before c) (after c) c.self.invariant.0.size turned.count turned.states regions ready))

pub returns-clause-kept : goal.returns-clause-kept
returns-clause-kept c k =
    let old = before c in
    let new = after c in
    let P : ServerValue → Type 0 = λ s. serves s.topology k ≡ serves c.reload.new.self k → slice_get new k ≡ slice_get s.states k in
    subst P c.self.view_is
    (λ same. same_state old new k (all_turned c).count ((all_turned c).states k ∙ ap (λ off. state_turned off (server_state old k)) (stays c k same)))

pub returns-clause-left : goal.returns-clause-left
returns-clause-left c k state was is found s below =
    let t = c.self.inside.circuits in
    let new = after c in
    let before : serves t k ≡ true = ap (λ (v : ServerValue). serves v.topology k) c.self.view_is ∙ was in
    let off = turns (serves t k) (has t.plans c.from-number.result k) before (sym (serves_new c k) ∙ is) in
    (all_turned c).left k s (slice_get_within new k state found) off below
    ∙ ap (λ x. held_in x s) (get_or_from_slice_get new k state None found)

pub returns-clause-examined : goal.returns-clause-examined
returns-clause-examined c = (all_turned c).examined ∙ ap (λ (v : ServerValue). v.deadlines.examined) c.self.view_is

pub returns-clause-deadlines : goal.returns-clause-deadlines
returns-clause-deadlines c = search rules
