use Rattle.std.proofs.Common.{◌≡◌, ◌+◌, List, map, length, count_by, sym, ap, subst, ◌∙◌}
use Rattle.std.specs.Prelude.{All, Option}
use Rattle.std.proofs.lemmas.List.{length-map}
use Rattle.timers.specs.Deadlines.{entry_after_sweep, is_due}
use Rattle.circuit_server.specs.Deadlines.{swept}
use Rattle.dispatch.specs.ServerValue.{HoldsDeadlines, ServerValue, circuits_in, leases_in, with_states}
use Rattle.circuit_server.specs.Leases.{after_tick}
use Rattle.circuit_server.specs.CircuitServerValue.{HasItsPools, IsReady, OpenCircuitValue, leases_of}
use Rattle.circuit_server.specs.Ticked.{state_at}
use Rattle.dispatch.proofs.HeldDeadlines.{later_left, same_slots}
use Rattle.dispatch.proofs.TickLemmas.{all_pools_after_tick, all_ready_after_tick, held_after_tick, leases_after_tick, ticked_twice}
use Rattle.dispatch.proofs.server.Server.tick.Goals as goal

-- the states that show of all, before and after
abbrev before : (c : goal.After-sweep) → List (Option OpenCircuitValue)
before c = map (state_at c.self.inside.ticked) c.self.inside.servers.items

abbrev after : (c : goal.After-sweep) → List (Option OpenCircuitValue)
after c = map (state_at c.later-self-inside.result) c.self.inside.servers.items

shown : (c : goal.After-sweep) → after c ≡ map (state_at c.args.now) (before c)
shown c = ap (λ moment. map (state_at moment) c.self.inside.servers.items) c.later-self-inside.ensures ∙ ticked_twice c.self.inside.ticked c.args.now c.self.inside.servers.items

pub invariant_of-self : goal.invariant_of-self
invariant_of-self c =
    let parts = c.self.inside.circuits.circuits in
    let states = before c in
    let left = swept c.args.now c.self.inside.deadlines in (
      record {
        sound = c.self.invariant.0.sound;
        size = ap (λ (xs : List (Option OpenCircuitValue)). length xs) (shown c) ∙ length-map states (state_at c.args.now) ∙ c.self.invariant.0.size;
        pools = subst (λ xs. All HasItsPools (with_states parts xs)) (sym (shown c)) (all_pools_after_tick c.args.now parts states c.self.invariant.0.pools);
      },
      same_slots left c.sweep.new.self (after c) c.sweep.ensures.slots (subst (HoldsDeadlines left) (sym (shown c)) (held_after_tick c.args.now c.self.inside.deadlines states c.self.invariant.1)),
      c.self.invariant.2,
    )

pub returns-clause-topology : goal.returns-clause-topology
returns-clause-topology c = ap (λ (s : ServerValue). s.topology) c.self.view_is

pub returns-clause-leases : goal.returns-clause-leases
returns-clause-leases c regions =
    let parts = c.self.inside.circuits.circuits in
    ap (λ xs. map (leases_of regions) (with_states parts xs)) (shown c)
    ∙ leases_after_tick c.args.now regions parts (before c)
    ∙ ap (λ s. map (after_tick c.args.now) (leases_in regions s)) c.self.view_is

pub returns-clause-ready : goal.returns-clause-ready
returns-clause-ready c regions ready =
    let parts = c.self.inside.circuits.circuits in
    subst (λ xs. All (IsReady regions) (with_states parts xs)) (sym (shown c))
    (all_ready_after_tick c.args.now regions parts (before c) (subst (λ (s : ServerValue). All (IsReady regions) (circuits_in s)) (sym c.self.view_is) ready))

pub returns-clause-due : goal.returns-clause-due
returns-clause-due c n until there = later_left c.args.now c.self.inside.deadlines c.sweep.new.self n until c.sweep.ensures.slots there

pub returns-clause-deadlines : goal.returns-clause-deadlines
returns-clause-deadlines c = c.sweep.ensures.slots ∙ ap (λ (s : ServerValue). map (entry_after_sweep c.args.now) s.deadlines.slots) c.self.view_is

pub returns-clause-examined : goal.returns-clause-examined
returns-clause-examined c = c.sweep.ensures.examined ∙ ap (λ (s : ServerValue). s.deadlines.examined + count_by (is_due c.args.now) s.deadlines.slots + 1) c.self.view_is
