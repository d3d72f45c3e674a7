use Rattle.std.proofs.Common.{◌≡◌, ◌==◌, List, map, set, length, refl, sym, ap, subst, ◌∙◌, rules}
use Rattle.std.specs.Prelude.{Option}
use Rattle.circuit_server.specs.CircuitServerValue.{OpenCircuitValue}
use Rattle.circuit_server.specs.Prepared.{IsSettled}
use Rattle.circuit_server.specs.Ticked.{state_at, server_state}
use Rattle.dispatch.specs.Answers.{AnswersValue, answer_by}
use Rattle.dispatch.specs.Deadlines.{AllUnchangedOrUntilHeld, KeepsDeadlines}
use Rattle.dispatch.specs.Parts.{IsSettledSo}
use Rattle.dispatch.specs.ServerValue.{ServerValue}
use Rattle.dispatch.proofs.HeldDeadlines.{kept_beside, settled_all}
use Rattle.dispatch.proofs.OneServer.{IsOne, after_call, its_pools, still_held, still_sound}
use Rattle.dispatch.proofs.PartLemmas.{not_same}
use Rattle.dispatch.proofs.PlaceLemmas.{added_to, room_for}
use Rattle.dispatch.proofs.server.Server.settle.Goals as goal

pub settle-place-requires-clause-pools : goal.settle-place-requires-clause-pools
settle-place-requires-clause-pools c =
    its_pools c.self.inside.circuits c.self.inside.ticked c.self.inside.servers.items c.self.invariant.0 c.args.circuit c.index.result c.index.ensures.value c.part-part.result.now c.part-part.ensures
    c.index_mut-server.result.now c.tick.new.self c.index_mut-server.ensures.value c.tick.ensures

-- the states that show of all, before and after
abbrev before : (c : goal.After-answers-1) → List (Option OpenCircuitValue)
before c = map (state_at c.self.inside.ticked) c.self.inside.servers.items

abbrev after : (c : goal.After-answers-1) → List (Option OpenCircuitValue)
after c = map (state_at c.self.inside.ticked) (set c.self.inside.servers.items c.index.result c.settle-place.new.self)

one : (c : goal.After-answers-1) → IsOne c.tick.new.self c.settle-place.new.self c.args.circuit (before c) (after c)
one c =
    after_call c.self.inside.circuits c.self.inside.ticked c.self.inside.servers.items c.self.invariant.0 c.args.circuit c.index.result c.index.ensures.value c.part-part.result.now c.part-part.ensures
    c.index_mut-server.result.now c.tick.new.self c.index_mut-server.ensures.value c.tick.ensures c.settle-place.new.self c.settle-place.ensures.later

pub invariant_of-self : goal.invariant_of-self
invariant_of-self c = (
  still_sound c.self.inside.circuits (before c) (after c) c.args.circuit c.part-part.result.now c.tick.new.self c.settle-place.new.self c.self.invariant.0 (one c) c.part-part.ensures c.settle-place.ensures.pools,
  still_held (before c) (after c) c.args.circuit c.tick.new.self c.settle-place.new.self c.self.inside.deadlines c.settle-place.new.table (one c) c.self.invariant.1 c.settle-place.ensures.entries,
  c.self.invariant.2,
)

pub returns-clause-others : goal.returns-clause-others
returns-clause-others c =
    subst (λ (s : ServerValue). after c ≡ set s.states c.args.circuit (server_state (after c) c.args.circuit)) c.self.view_is
    ((one c).others ∙ ap (set (before c) c.args.circuit) (sym (one c).after))

-- what the call settled, to the states that are shown
settled : (c : goal.After-answers-1) → IsSettled c.part-part.result.now c.args.prepared.now c.args.saved (server_state (before c) c.args.circuit) c.settle-place.new.self c.settle-place.result c.settle-place.new.out
settled c =
    subst (λ was. IsSettled c.part-part.result.now c.args.prepared.now c.args.saved was c.settle-place.new.self c.settle-place.result c.settle-place.new.out) (sym (one c).before) c.settle-place.ensures.settled

pub returns-clause-held : goal.returns-clause-held
returns-clause-held c = λ before_all.
    let P : ServerValue → Type 0 = λ s. AllUnchangedOrUntilHeld before_all s.deadlines s.states → AllUnchangedOrUntilHeld before_all c.settle-place.new.table (after c) in
    subst P c.self.view_is
    (settled_all c.args.circuit (before c) (after c) c.settle-place.new.self before_all c.self.inside.deadlines c.settle-place.new.table c.part-part.result.now c.args.prepared.now c.args.saved
    c.settle-place.result c.settle-place.new.out (one c).others (one c).inside c.settle-place.ensures.entries.others (settled c) c.settle-place.ensures.entries.own c.settle-place.ensures.entries.deadlines)

pub returns-clause-deadlines : goal.returns-clause-deadlines
returns-clause-deadlines c =
    subst (λ (s : ServerValue). KeepsDeadlines (λ k. c.args.circuit == k) s.deadlines c.settle-place.new.table) c.self.view_is
    (kept_beside c.args.circuit (λ k. c.args.circuit == k) c.self.inside.deadlines c.settle-place.new.table (not_same c.args.circuit) c.settle-place.ensures.entries.others)

pub returns-clause-answered : goal.returns-clause-answered
returns-clause-answered c =
    let made = c.settle-place in
    let answer = answer_by made.result made.new.out in
    let size : length c.answers.inside.places ≡ 16 = search rules in
    let within = room_for c.answers.inside.count c.answers.inside.places c.args.answers.now.answers (ap (λ (a : AnswersValue). a.answers) c.answers.view_is) c.answers.invariant size c.requires.room in (
      answer,
      added_to c.answers.inside.circuits.items c.answers.inside.count c.answers.inside.places _ answer c.args.answers.now c.answers.view_is within refl,
      subst (λ (s : ServerValue). IsSettledSo s.topology c.args.prepared.now c.args.saved c.args.circuit s.states (after c) answer) c.self.view_is
          (record {
            part = c.part-part.result.now;
            there = c.part-part.ensures;
            result = made.result;
            out = made.new.out;
            settled = subst (λ is. IsSettled c.part-part.result.now c.args.prepared.now c.args.saved (server_state (before c) c.args.circuit) is made.result made.new.out) (sym (one c).after) (settled c);
            given = refl;
          }),
    )
