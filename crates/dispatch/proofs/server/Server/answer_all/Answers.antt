use Rattle.std.proofs.Common.{◌≡◌, ◌∙◌, ◌+◌, ◌<◌, ℕ, List, [], length, sym, ap, subst, arith}
use Rattle.std.specs.Prelude.{Option, Some, None, Result, Ok, Err, IfOk, slice_get, slice_index_or}
use Rattle.std.specs.List.{cons_option}
use Rattle.std.proofs.lemmas.Option.{same_Some, slice_get-get_or}
use Rattle.types.specs.declared.discard.Discard.{Discard}
use Rattle.batch_saves.specs.Batch.{part_at}
use Rattle.config.specs.Topology.{Topology}
use Rattle.circuit_server.specs.declared.prepared.Prepared.{Prepared}
use Rattle.dispatch.specs.Answers.{AnswersValue}
use Rattle.dispatch.specs.Parts.{AreAnswered, AreToSettle, IsAnswered, place_of, saving_in}
use Rattle.dispatch.proofs.AnsweredLemmas.{answered_more, kept_answered}
use Rattle.dispatch.proofs.SavingLemmas.{filter_few, place_more, place_within}
use Rattle.dispatch.proofs.server.Server.answer_all.Goals as goal

abbrev Part : Type 0
Part = Result (ℕ × Prepared) Discard

-- the part at an index of the batch
at : (items parts : List (Option Part)) (i : ℕ) (x y : Option Part) → items ≡ parts → i < length items → x ≡ slice_index_or items i x → x ≡ y → slice_get parts i ≡ Some y
at items parts i x y same within is next = subst (λ (xs : List (Option Part)). slice_get xs i ≡ Some y) same (slice_get-get_or items i x within ∙ ap Some (sym is) ∙ ap Some next)

-- it says something
says : (topology : Topology) (parts : List (Option Part)) (i : ℕ) → AreToSettle topology parts → i < length parts → slice_get parts i ≡ Some None → ⊥
says topology parts i settles within none =
    let one = settles.each i within in
    let never : Some one.0 ≡ None = same_Some (Some one.0) None (sym one.1 ∙ none) in
    absurd cc

exists : (topology : Topology) (parts : List (Option Part)) (i : ℕ) → AreToSettle topology parts → (part : Part) → slice_get parts i ≡ Some (Some part) → IfOk part (λ one. one.0 < length topology.circuits)
exists topology parts i settles (Ok (c, prepared)) there = settles.exist i c prepared there
exists topology parts i settles (Err why) there = tt

pub unreachable-requires : goal.unreachable-requires
unreachable-requires c =
    let was = c.parts.invariant in
    says c.args.self.now.topology c.args.batch.now.parts.items c.parts.part-index was.settles (subst (λ (xs : List (Option Part)). c.parts.part-index < length xs) was.items c.parts-test.true)
    (at c.deref-part-items.result.now c.args.batch.now.parts.items c.parts.part-index c.part-item.result None was.items c.parts-test.true c.part-item.is c.in_default.is)

pub answer_part-requires-clause-exists : goal.answer_part-requires-clause-exists
answer_part-requires-clause-exists c =
    let was = c.parts.invariant in
    let there = at c.deref-part-items.result.now c.args.batch.now.parts.items c.parts.part-index c.part-item.result (Some c.in-Some.part) was.items c.parts-test.true c.part-item.is c.in-Some.is in
    subst (λ (t : Topology). IfOk c.in-Some.part (λ one. one.0 < length t.circuits)) (sym was.topology) (exists c.args.self.now.topology c.args.batch.now.parts.items c.parts.part-index was.settles c.in-Some.part there)

pub answer_part-requires-clause-place : goal.answer_part-requires-clause-place
answer_part-requires-clause-place c =
    let was = c.parts.invariant in
    let there = at c.deref-part-items.result.now c.args.batch.now.parts.items c.parts.part-index c.part-item.result (Some c.in-Some.part) was.items c.parts-test.true c.part-item.is c.in-Some.is in
    let within = place_within c.args.batch.now.parts.items c.parts.part-index (Some c.in-Some.part) there in
    omega (arith, within, was.place, was.savings)

pub answer_part-requires-clause-room : goal.answer_part-requires-clause-room
answer_part-requires-clause-room c =
    let was = c.parts.invariant in
    let within : c.parts.part-index < length c.args.batch.now.parts.items = subst (λ (xs : List (Option Part)). c.parts.part-index < length xs) was.items c.parts-test.true in
    omega (arith, within, was.answered.count, was.most)

pub place_after-place-requires : goal.place_after-place-requires
place_after-place-requires c =
    let was = c.parts.invariant in
    let there = at c.deref-part-items.result.now c.args.batch.now.parts.items c.parts.part-index c.part-item.result (Some c.in-Some.part) was.items c.parts-test.true c.part-item.is c.in-Some.is in
    let within = place_within c.args.batch.now.parts.items c.parts.part-index (Some c.in-Some.part) there in
    let few = filter_few saving_in c.args.batch.now.parts.items in
    omega (arith, within, few, was.place, was.most)

pub parts-preserved : goal.parts-preserved
parts-preserved c =
    let was = c.parts.invariant in
    let parts = c.args.batch.now.parts.items in
    let i = c.parts.part-index in
    let there = at c.deref-part-items.result.now parts i c.part-item.result (Some c.in-Some.part) was.items c.parts-test.true c.part-item.is c.in-Some.is in
    let next = c.answer_part.ensures in
    let before = was.answered in
    record {
      items = was.items;
      end = was.end;
      index = omega (arith, c.parts-test.true);
      topology = next.topology ∙ was.topology;
      settles = was.settles;
      most = was.most;
      savings = was.savings;
      place = c.place_after-place.ensures ∙ ap (λ n. n + length (cons_option (saving_in (Some c.in-Some.part)) [])) was.place ∙ sym (place_more parts i (Some c.in-Some.part) there);
      deadlines = kept_answered parts i (Some c.in-Some.part) c.args.self.now.deadlines c.parts.self.deadlines c.answer_part.new.self.deadlines there was.deadlines next.deadlines;
      held = λ past so. next.held past (was.held past so);
      circuits = ap (λ (a : AnswersValue). a.circuits) next.answered.1 ∙ was.circuits;
      answered =
          subst (λ (given : List (Result (List ℕ) Discard)). AreAnswered c.args.self.now.topology parts c.args.batch.now.savings (i + 1) c.args.self.now.states c.answer_part.new.self.states given) (sym (ap (λ (a : AnswersValue). a.answers) next.answered.1))
          (answered_more c.args.self.now.topology parts c.args.batch.now.savings i c.args.self.now.states c.parts.self.states c.answer_part.new.self.states c.parts.answers.answers c.in-Some.part there was.settles before next.size next.keeps next.answered.0
          (subst (λ (t : Topology). IsAnswered t (part_at c.args.batch.now.savings (place_of parts i)) c.parts.self.states c.answer_part.new.self.states next.answered.0 c.in-Some.part) was.topology
          (subst (λ n. IsAnswered c.parts.self.topology (part_at c.args.batch.now.savings n) c.parts.self.states c.answer_part.new.self.states next.answered.0 c.in-Some.part) was.place next.answered.2)));
    }
