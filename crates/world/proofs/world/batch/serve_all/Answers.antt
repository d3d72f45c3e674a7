use Rattle.std.proofs.Common.{[], ◌∷◌, ◌≡◌, ℕ, List, ap, length, refl, sym, subst, ◌∙◌, arith}
use Rattle.std.specs.Prelude.{Result}
use Rattle.std.proofs.lemmas.Bool.{eqb-true}
use Rattle.types.specs.declared.discard.Discard.{Discard}
use Rattle.dispatch.specs.Answers.{AnswersValue}
use Rattle.dispatch.specs.ServerValue.{AreReady}
use Rattle.lease_disk.specs.Device.{has_failed}
use Rattle.lease_disk.specs.Model.{device_of}
use Rattle.world.specs.Batch.{AreServed}
use Rattle.world.specs.declared.world.batch.Waiting.{Waiting}
use Rattle.world.proofs.BatchServing.{are_served, none_served}
use Rattle.world.proofs.world.batch.serve_all.Goals as goal

no_length : (ws : List Waiting) → length ws ≡ 0 → ws ≡ []
no_length [] none = refl
no_length (w ∷ ws) none = absurd (omega (arith, none))

pub returns-then-is_empty : goal.returns-then-is_empty
returns-then-is_empty c =
    let ws = c.args.waiting.now in
    let none = no_length ws (eqb-true (length ws) 0 (sym c.is_empty.ensures ∙ c.if-is_empty.true)) in
    let P : List (Result (List ℕ) Discard) → Type 0 = λ answers. AreServed c.args.now ws c.args.net.now c.args.server.now c.args.server.now c.args.disk.now c.args.disk.now answers in
    subst P (sym (ap (λ (a : AnswersValue). a.answers) c.clear.ensures)) (none_served c.args.now ws c.args.net.now c.args.server.now c.args.disk.now c.requires.ready none)

pub receive_batch-requires-clause-ready : goal.receive_batch-requires-clause-ready
receive_batch-requires-clause-ready c = λ tells. subst (λ states. AreReady states c.args.server.now) (sym c.set_faults.ensures.states) c.requires.ready

pub returns : goal.returns
returns c =
    let given = c.receive_batch.new.answers.answers in
    are_served c.args.now c.args.waiting.now c.args.net.now c.args.server.now c.receive_batch.new.self c.args.disk.now c.set_faults.new.disk c.receive_batch.new.disk c.set_faults-2.new.disk given
    c.receive_batch.ensures.topology c.set_faults.ensures.states c.set_faults.ensures.count c.set_faults.ensures.faults
    c.set_faults-2.ensures.states c.set_faults-2.ensures.count c.set_faults-2.ensures.faults _ (has_failed (device_of c.set_faults.new.disk) (device_of c.receive_batch.new.disk)) (c.datagrams_of-datagrams.ensures c.args.now)
    (record {
      failing = c.receive_batch.ensures.fails refl;
      answered = c.receive_batch.ensures.answers;
      leases = c.receive_batch.ensures.leases refl;
      ready = c.receive_batch.ensures.ready refl;
      frame = c.receive_batch.ensures.frame;
    })
