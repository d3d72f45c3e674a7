use Rattle.std.proofs.Common.{◌≡◌, ◌≤◌, ◌<◌, List, [], ◌∷◌, length, slice_index_or, refl, sym, ap, subst, ◌∙◌, arith, rules}
use Rattle.types.specs.Delivery.{DeliveryValue, delivery}
use Rattle.circuit_server.specs.Calls.{IsCalledToSave}
use Rattle.dispatch.specs.Batch.{IsBatch, batch_saves}
use Rattle.dispatch.specs.ServerValue.{books_in}
use Rattle.lease_disk.specs.FileDisk.{device_of}
use Rattle.lease_disk.specs.Device.{has_failed}
use Rattle.access.specs.Batch.{AreReceived, serving}
use Rattle.access.specs.Taken.{all_delivered}
use Rattle.access.specs.declared.datagrams.Datagram.{Datagram}
use Rattle.access.proofs.ReplyLemmas.{no_datagram}
use Rattle.access.proofs.batch.Batch.receive.Goals as goal

-- a list of one
only_one : (xs : List Datagram) → 1 ≤ length xs → length xs < 2 → xs ≡ slice_index_or xs 0 no_datagram ∷ []
only_one [] least most = absurd (omega (arith, least))
only_one (x ∷ []) least most = refl
only_one (x ∷ y ∷ rest) least most = absurd (omega (arith, most))

pub returns-in-len1-clause-received : goal.returns-in-len1-clause-received
returns-in-len1-clause-received c = λ tally history.
    let old = c.args.server.now in
    let new = c.receive_batch.new.self in
    let before = device_of c.args.disk.now in
    let after = device_of c.receive_batch.new.disk in
    let answers = c.receive_batch.new.answers.answers in
    let xs = c.as_slice-taken.result.now in
    let is : c.args.self.now.taken ≡ slice_index_or xs 0 no_datagram ∷ [] = sym c.as_slice-taken.ensures.value ∙ only_one xs c.in-len1.len_at_least c.in-len1.len_below in
    let d = slice_index_or xs 0 no_datagram in
    let same = ap (λ bytes. delivery d.proto d.source c.args.now bytes ∷ []) c.bytes.ensures in
    subst (λ (taken : List Datagram). AreReceived (all_delivered c.args.now taken) answers (serving old c.args.disk.now tally history) (serving new c.receive_batch.new.disk tally history)) (sym is)
    (record {
      batch = subst (λ (ds : List DeliveryValue). IsBatch old.topology ds (has_failed before after) (books_in old) (books_in new) answers) same c.receive_batch.ensures.answers;
      calls = subst (λ (ds : List DeliveryValue). IsCalledToSave (batch_saves old.topology ds (books_in old)) before after) same c.receive_batch.ensures.calls;
      rest = refl;
      stays = record { topology = c.receive_batch.ensures.topology; regions = search rules };
    })
