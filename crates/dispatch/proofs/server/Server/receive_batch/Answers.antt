use Rattle.std.proofs.Common.{List, ◌∙◌, ◌≡◌, ◌∷◌, ◌++◌, [], ap, arith, length, refl, rules, subst, sym, ℕ}
use Rattle.std.specs.Prelude.{Result}
use Rattle.types.specs.Delivery.{DeliveryValue}
use Rattle.types.specs.declared.discard.Discard.{Discard}
use Rattle.lease_disk.specs.Device.{has_failed}
use Rattle.dispatch.specs.Answers.{AnswersValue, answer_by}
use Rattle.dispatch.specs.Batch.{IsBatch, deliveries}
use Rattle.dispatch.specs.Parts.{IsReceivedBatch}
use Rattle.dispatch.specs.ServerValue.{books_in}
use Rattle.dispatch.proofs.AloneLemmas.{only_one, received_batch_of_one}
use Rattle.dispatch.proofs.PlaceLemmas.{added, room_for}
use Rattle.dispatch.proofs.server.Server.receive_batch.Given as given
use Rattle.dispatch.proofs.server.Server.receive_batch.Goals as goal

-- what was received alone is a batch
alone : (g : given.Over) (c : goal.After-answers-1 g)
    → IsReceivedBatch g.D.Disk.tells (deliveries c.args.now c.args.parts.now) (answer_by c.receive_found-place.result c.receive_found-place.new.out ∷ []) c.args.self.now c.receive_found-place.new.self
    (g.D.Disk.device c.args.disk.now) (g.D.Disk.device c.receive_found-place.new.disk)
alone g c =
    let made = c.receive_found-place in
    let answer = answer_by made.result made.new.out in
    let was = g.D.Disk.device c.args.disk.now in
    let now = g.D.Disk.device made.new.disk in
    subst (λ (ds : List DeliveryValue). IsReceivedBatch g.D.Disk.tells ds (answer ∷ []) c.args.self.now made.new.self was now) (sym (only_one c.args.now c.args.parts.now _ c.in-len1.len_at_least c.in-len1.len_below))
    (received_batch_of_one g.D.Disk.tells _ c.args.self.now made.new.self was now made.result made.new.out (answer ∷ []) made.ensures.received refl)

pub returns-clause-answers : goal.returns-clause-answers
returns-clause-answers g c =
    let made = c.receive_found-place in
    let answer = answer_by made.result made.new.out in
    let fails = has_failed (g.D.Disk.device c.args.disk.now) (g.D.Disk.device made.new.disk) in
    let none = ap (λ (a : AnswersValue). a.answers) (c.answers.view_is ∙ c.add_circuit.ensures) ∙ ap (λ (a : AnswersValue). a.answers) c.clear.ensures in
    let size : length c.answers.inside.places ≡ 16 = search rules in
    let within = room_for c.answers.inside.count c.answers.inside.places [] none c.answers.invariant size (omega arith) in
    let given = added c.answers.inside.count c.answers.inside.places _ answer within refl ∙ ap (λ (xs : List (Result (List ℕ) Discard)). xs ++ answer ∷ []) none in
    subst (IsBatch c.args.self.now.topology (deliveries c.args.now c.args.parts.now) fails (books_in c.args.self.now) (books_in made.new.self)) (sym given) (alone g c).answers

pub returns-clause-fails : goal.returns-clause-fails
returns-clause-fails g c = (alone g c).fails

pub returns-clause-leases : goal.returns-clause-leases
returns-clause-leases g c = (alone g c).leases

pub returns-clause-frame : goal.returns-clause-frame
returns-clause-frame g c = (alone g c).frame

pub returns-clause-calls : goal.returns-clause-calls
returns-clause-calls g c = (alone g c).calls
