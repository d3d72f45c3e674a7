use Rattle.std.proofs.Common.{inl, Bor, ◌≡◌, ◌+◌, ◌<◌, ◌||◌, ◌∙◌, ◌++◌, ℕ, List, [], length, take, refl, sym, ap, subst, arith}
use Rattle.std.specs.Prelude.{Option, Result, Some, option_map, slice_get}
use Rattle.std.specs.List.{cons_option, list_any}
use Rattle.std.proofs.lemmas.List.{length-map, take_all}
use Rattle.std.proofs.lemmas.Option.{slice_get-get_or, slice_get-map}
use Rattle.types.specs.Delivery.{delivery}
use Rattle.types.specs.declared.addr.Source.{Source}
use Rattle.types.specs.declared.dest.Proto.{Proto}
use Rattle.types.specs.declared.discard.Discard.{Discard}
use Rattle.circuit_server.specs.CircuitServerValue.{OpenCircuitValue}
use Rattle.circuit_server.specs.declared.prepared.Prepared.{Prepared}
use Rattle.batch_saves.specs.Batch.{AreApart}
use Rattle.batch_saves.specs.Batch as saves
use Rattle.lease_disk.specs.declared.saving.Saving.{Saving}
use Rattle.config.specs.Topology.{IsTopology, Topology}
use Rattle.requests.specs.Addressee.{addressee}
use Rattle.dispatch.specs.Answers.{AnswersValue}
use Rattle.dispatch.specs.Batch.{circuits_of, deliveries, is_circuit, is_named}
use Rattle.dispatch.specs.Deadlines.{KeepsDeadlines}
use Rattle.dispatch.specs.Parts.{AreAnswered, AreDecided, AreSavedTogether, AreToSettle, IsPart, IsReceivedBatch, has_named, is_of, saving_in, savings_of, with_circuit}
use Rattle.dispatch.specs.ServerValue.{ServerValue}
use Rattle.dispatch.proofs.BatchClauses.{received_batch, saves_apart, saves_ready}
use Rattle.dispatch.proofs.HeldDeadlines.{kept_all, kept_both, kept_wider}
use Rattle.dispatch.proofs.PartLemmas.{circuits_more, held_more, kept_more, made_more, made_none}
use Rattle.dispatch.proofs.SavingLemmas.{filter_few, filter_more}
use Rattle.dispatch.proofs.SaverLemmas.{none_settles, to_settle}
use Rattle.dispatch.proofs.server.Server.receive_together.Given as given
use Rattle.dispatch.proofs.server.Server.receive_together.Goals as goal

-- ---- the loop

pub parts-init : goal.parts-init
parts-init g c = record {
  index = omega arith;
  most = c.requires.most;
  topology = refl;
  made =
      subst (λ named. AreDecided c.args.self.now.topology (deliveries c.args.now c.args.parts.now) 0 named c.args.self.now.states c.args.self.now.states c.new.result.items) (sym c.new-2.ensures)
      (subst (AreDecided c.args.self.now.topology (deliveries c.args.now c.args.parts.now) 0 [] c.args.self.now.states c.args.self.now.states) (sym c.new.ensures)
      (made_none c.args.self.now.topology (deliveries c.args.now c.args.parts.now) c.args.self.now.states));
  deadlines = kept_all _ c.args.self.now.deadlines;
  held = λ k state there s below. inl refl;
  savings = c.new-3.ensures ∙ sym (ap savings_of c.new.ensures);
  circuits = ap (λ (a : AnswersValue). a.circuits) c.requires.none;
  none = ap (λ (a : AnswersValue). a.answers) c.requires.none;
}

pub add-requires : goal.add-requires
add-requires g c =
    let was = c.parts.invariant in
    let few = filter_few saving_in c.parts.batch.parts.items in
    subst (λ (xs : List Saving). length xs < 16) (sym was.savings) (omega (arith, few, was.made.count, was.most, c.parts-test.true))

pub parts-preserved : goal.parts-preserved
parts-preserved g c =
    let was = c.parts.invariant in
    let next = c.prepare_part-made.ensures in
    let parts = c.args.parts.now in
    let ds = deliveries c.args.now parts in
    let topology = c.args.self.now.topology in
    let one = c.in-Some.part.now in
    let d = delivery one.0 one.1 c.args.now one.2.now in
    let there : slice_get parts c.parts.index ≡ Some one = slice_get-get_or parts c.parts.index one c.parts-test.true ∙ ap Some (sym c.in-Some.ensures.lookup.1) in
    let here : slice_get ds c.parts.index ≡ Some d = slice_get-map (λ part. delivery part.0 part.1 c.args.now part.2.now) parts c.parts.index ∙ ap (option_map (λ part. delivery part.0 part.1 c.args.now part.2.now)) there in
    let part = subst (λ t. IsPart t c.parts.batch.named.items d c.parts.self.states c.prepare_part-made.new.self.states c.prepare_part-made.result) was.topology next.part in
    record {
      index = omega (arith, c.parts-test.true);
      most = was.most;
      topology = next.topology ∙ was.topology;
      made =
          subst (λ made. AreDecided topology ds (c.parts.index + 1) c.prepare_part-made.new.named.items c.args.self.now.states c.prepare_part-made.new.self.states made) (sym c.push.ensures.items)
          (made_more topology ds c.parts.index d c.parts.batch.named.items c.args.self.now.states c.parts.self.states c.prepare_part-made.new.self.states c.parts.batch.parts.items c.prepare_part-made.result here was.made part
          c.prepare_part-made.new.named.items next.few (subst (λ t. (k : ℕ) → has_named c.prepare_part-made.new.named.items k ≡ (has_named c.parts.batch.named.items k || is_circuit k (addressee t d))) was.topology next.named));
      deadlines =
          kept_more topology ds c.parts.index d c.args.self.now.deadlines c.parts.self.deadlines c.prepare_part-made.new.self.deadlines here was.deadlines
          (subst (λ t. KeepsDeadlines (λ k. is_circuit k (addressee t d)) c.parts.self.deadlines c.prepare_part-made.new.self.deadlines) was.topology next.deadlines);
      held =
          held_more topology ds c.parts.index d c.parts.batch.named.items c.args.self.now.states c.parts.self.states c.prepare_part-made.new.self.states c.parts.batch.parts.items c.prepare_part-made.result here was.made part
          c.args.self.now.deadlines c.parts.self.deadlines c.prepare_part-made.new.self.deadlines was.deadlines was.held next.held;
      savings =
          c.add.ensures
          ∙ ap (λ (o : Option Saving). c.parts.batch.savings ++ cons_option o []) c.saving_of.ensures
          ∙ ap (λ (xs : List Saving). xs ++ cons_option (saving_in (Some c.prepare_part-made.result)) []) was.savings
          ∙ sym (filter_more saving_in c.parts.batch.parts.items (Some c.prepare_part-made.result))
          ∙ sym (ap savings_of c.push.ensures.items);
      circuits =
          ap (λ (a : AnswersValue). a.circuits) (subst (λ t. c.prepare_part-made.new.answers ≡ with_circuit (addressee t d) c.parts.answers) was.topology next.circuit)
          ∙ circuits_more topology ds c.parts.index d c.parts.answers.circuits here was.circuits;
      none = ap (λ (a : AnswersValue). a.answers) next.circuit ∙ was.none;
    }

-- ---- all are decided on

all_made : (topology : Topology) (now : ℕ) (parts : List (Proto × Source × Bor (List ℕ))) (i : ℕ) (named : List ℕ) (old later : List (Option OpenCircuitValue)) (made : List (Option (Result (ℕ × Prepared) Discard)))
    → i ≡ length parts → AreDecided topology (deliveries now parts) i named old later made → AreDecided topology (deliveries now parts) (length parts) named old later made
all_made topology now parts i named old later made all decided = subst (λ n. AreDecided topology (deliveries now parts) n named old later made) all decided

whole : (now : ℕ) (parts : List (Proto × Source × Bor (List ℕ))) (i : ℕ) → i ≡ length parts → take i (deliveries now parts) ≡ deliveries now parts
whole now parts i all =
    let size = length-map parts (λ part. delivery part.0 part.1 now part.2.now) in
    take_all i (deliveries now parts) (omega (arith, all, size))

pub save-requires-clause-apart : goal.save-requires-clause-apart
save-requires-clause-apart g c =
    let made = c.parts.invariant in
    let sound = subst (λ (s : ServerValue). IsTopology s.topology) c.self.view_is c.self.invariant.0.sound in
    let size = subst (λ (s : ServerValue). length s.states ≡ length s.topology.circuits) c.self.view_is c.self.invariant.0.size in
    subst AreApart (sym made.savings)
    (saves_apart c.args.self.now (deliveries c.args.now c.args.parts.now) (length c.args.parts.now) c.parts.batch.named.items c.parts.self.states c.parts.batch.parts.items
    (length-map c.args.parts.now _) (all_made c.args.self.now.topology c.args.now c.args.parts.now c.parts.index c.parts.batch.named.items c.args.self.now.states c.parts.self.states c.parts.batch.parts.items (omega (arith, made.index, c.parts-test.false)) made.made) sound size)

pub save-requires-clause-ready : goal.save-requires-clause-ready
save-requires-clause-ready g c =
    let made = c.parts.invariant in
    let sound = subst (λ (s : ServerValue). IsTopology s.topology) c.self.view_is c.self.invariant.0.sound in
    let size = subst (λ (s : ServerValue). length s.states ≡ length s.topology.circuits) c.self.view_is c.self.invariant.0.size in
    subst (saves.AreReady g.D.Disk.tells (g.D.Disk.device c.args.disk.now)) (sym made.savings)
    (saves_ready c.args.self.now (deliveries c.args.now c.args.parts.now) (length c.args.parts.now) c.parts.batch.named.items c.parts.self.states c.parts.batch.parts.items
    (length-map c.args.parts.now _) (all_made c.args.self.now.topology c.args.now c.args.parts.now c.parts.index c.parts.batch.named.items c.args.self.now.states c.parts.self.states c.parts.batch.parts.items (omega (arith, made.index, c.parts-test.false)) made.made) sound size g.D.Disk.tells (g.D.Disk.device c.args.disk.now) c.requires.regions c.requires.ready)

pub answer_all-requires-clause-parts : goal.answer_all-requires-clause-parts
answer_all-requires-clause-parts g c =
    let made = c.parts.invariant in
    subst (λ (t : Topology). AreToSettle t c.parts.batch.parts.items) (sym made.topology)
    (to_settle c.args.self.now.topology (deliveries c.args.now c.args.parts.now) (length c.args.parts.now) c.parts.batch.named.items c.args.self.now.states c.parts.self.states c.parts.batch.parts.items
    (length-map c.args.parts.now _) (all_made c.args.self.now.topology c.args.now c.args.parts.now c.parts.index c.parts.batch.named.items c.args.self.now.states c.parts.self.states c.parts.batch.parts.items (omega (arith, made.index, c.parts-test.false)) made.made))

done : (g : given.Over) (c : goal.After-answer_all g)
    → IsReceivedBatch g.D.Disk.tells (deliveries c.args.now c.args.parts.now) c.answer_all.new.answers.answers c.args.self.now c.answer_all.new.self (g.D.Disk.device c.args.disk.now) (g.D.Disk.device c.save.new.disk)
done g c =
    let made = c.parts.invariant in
    let ended = c.answer_all.ensures.answered in
    let sound = subst (λ (s : ServerValue). IsTopology s.topology) c.self.view_is c.self.invariant.0.sound in
    let size = subst (λ (s : ServerValue). length s.states ≡ length s.topology.circuits) c.self.view_is c.self.invariant.0.size in
    let parts = c.parts.batch.parts.items in
    received_batch c.args.self.now (deliveries c.args.now c.args.parts.now) (length c.args.parts.now) c.parts.batch.named.items c.parts.self.states parts
    (length-map c.args.parts.now _) (all_made c.args.self.now.topology c.args.now c.args.parts.now c.parts.index c.parts.batch.named.items c.args.self.now.states c.parts.self.states c.parts.batch.parts.items (omega (arith, made.index, c.parts-test.false)) made.made) sound size c.answer_all.new.self (c.answer_all.ensures.topology ∙ made.topology) c.save.new.self g.D.Disk.tells (g.D.Disk.device c.args.disk.now) (g.D.Disk.device c.save.new.disk)
    (subst (λ (ss : List Saving). AreSavedTogether g.D.Disk.tells ss c.save.new.self (g.D.Disk.device c.args.disk.now) (g.D.Disk.device c.save.new.disk)) made.savings c.save.ensures.saved) c.save.ensures.calls
    c.answer_all.new.answers.answers (subst (λ (t : Topology). AreAnswered t parts c.save.new.self (length parts) c.parts.self.states c.answer_all.new.self.states c.answer_all.new.answers.answers) made.topology ended) c.requires.ready

pub returns-clause-received : goal.returns-clause-received
returns-clause-received g c = done g c

pub returns-clause-held : goal.returns-clause-held
returns-clause-held g c = c.answer_all.ensures.held c.args.self.now.deadlines c.parts.invariant.held

pub returns-clause-deadlines : goal.returns-clause-deadlines
returns-clause-deadlines g c =
    let made = c.parts.invariant in
    let topology = c.args.self.now.topology in
    let ds = deliveries c.args.now c.args.parts.now in
    let parts = c.parts.batch.parts.items in
    kept_both (is_named topology ds) c.args.self.now.deadlines c.parts.self.deadlines c.answer_all.new.self.deadlines
    (subst (λ xs. KeepsDeadlines (is_named topology xs) c.args.self.now.deadlines c.parts.self.deadlines) (whole c.args.now c.args.parts.now c.parts.index (omega (arith, made.index, c.parts-test.false))) made.deadlines)
    (kept_wider (λ k. list_any (is_of k) (take (length parts) parts)) (is_named topology ds) c.parts.self.deadlines c.answer_all.new.self.deadlines
    (none_settles topology ds (length c.args.parts.now) c.parts.batch.named.items c.args.self.now.states c.parts.self.states parts (length-map c.args.parts.now _) (all_made c.args.self.now.topology c.args.now c.args.parts.now c.parts.index c.parts.batch.named.items c.args.self.now.states c.parts.self.states c.parts.batch.parts.items (omega (arith, made.index, c.parts-test.false)) made.made))
    c.answer_all.ensures.deadlines)

pub returns-clause-circuits : goal.returns-clause-circuits
returns-clause-circuits g c =
    let made = c.parts.invariant in
    c.answer_all.ensures.circuits ∙ made.circuits ∙ ap (circuits_of c.args.self.now.topology) (whole c.args.now c.args.parts.now c.parts.index (omega (arith, made.index, c.parts-test.false)))
