-- What the server receives: all datagrams of a turn at once, and those that are repeated alone.
use Rattle.std.proofs.Common.{◌≡◌, ◌+◌, ◌<◌, ℕ, suc, true, false, List, length, take, refl, sym, subst, arith}
use Rattle.std.specs.Prelude.{Some, Result, slice_get}
use Rattle.std.proofs.lemmas.List.{length-map}
use Rattle.types.specs.Delivery.{DeliveryValue, delivery}
use Rattle.lease_disk.specs.Device.{has_failed}
use Rattle.lease_disk.specs.FileDisk.{FileDiskValue, device_of}
use Rattle.circuit_server.specs.Answered.{IsAnswer}
use Rattle.circuit_server.specs.Calls.{IsCalledToSaveAt}
use Rattle.requests.specs.Addressee.{addressee}
use Rattle.dispatch.specs.Answers.{circuit_in}
use Rattle.dispatch.specs.Received.{received, received_saves}
use Rattle.dispatch.specs.ServerValue.{ServerValue, books_in}
use Rattle.udp.specs.History.{Entry}
use Rattle.udp.specs.declared.history.Role.{Role}
use Rattle.udp.specs.declared.history.Role.TheVariants as role
use Rattle.counts.specs.Tally.{tallied}
use Rattle.counts.specs.declared.counts.Fate.{Fate}
use Rattle.counts.specs.declared.counts.Fate.TheVariants as fate
use Rattle.counts.specs.declared.tally.Tally.{Tally}
use Rattle.access.specs.Turn.{HasSentOn, with_bytes}
use Rattle.access.proofs.AnswerLemmas.{went}
use Rattle.types.specs.declared.discard.Discard.{Discard}
use Rattle.access.specs.Batch.{AreReceivedAgain, IsAnswered, IsReceivedAgain, IsReceivedAgainAt, Serving, is_repeated, made_of, fate_at_server, serving}
use Rattle.access.specs.Taken.{all_delivered, delivered}
use Rattle.access.specs.declared.datagrams.Datagram.{Datagram}
use Rattle.access.proofs.UpLemmas.{is_there}

-- ---- those that are repeated

-- one that was received alone, and its reply sent
pub answered_alone : (now : ℕ) (d : Datagram) (server server_after : ServerValue) (disk disk_after : FileDiskValue) (tally tally_after : Tally) (history history_after : List Entry) (made : Result (Unit {0}) Discard) (bytes out reply : List ℕ) (socket : Role) (became : Fate)
    → bytes ≡ take d.len d.buffer → IsAnswer (received server.topology (delivery d.proto d.source now bytes) (has_failed (device_of disk) (device_of disk_after)) (books_in server)).answer made out
    → books_in server_after ≡ (received server.topology (delivery d.proto d.source now bytes) (has_failed (device_of disk) (device_of disk_after)) (books_in server)).books
    → IsCalledToSaveAt (received_saves server.topology (delivery d.proto d.source now bytes) (books_in server)) (device_of disk) (device_of disk_after)
    → server_after.topology ≡ server.topology → disk_after.regions ≡ disk.regions → socket ≡ role.Server d.proto → reply ≡ out → HasSentOn socket d.source fate.Answered (with_bytes made reply) history history_after became
    → tally_after ≡ tallied (fate_at_server (circuit_in (addressee server.topology (delivered now d))) became) tally → IsAnswered (delivered now d) (serving server disk tally history) (serving server_after disk_after tally_after history_after)
answered_alone now d server server_after disk disk_after tally tally_after history history_after made bytes out reply socket became same answer books calls topology regions own is sent count =
    let old = serving server disk tally history in
    let new = serving server_after disk_after tally_after history_after in
    let fails = has_failed (device_of disk) (device_of disk_after) in
    let its = subst (λ b. IsAnswer (received server.topology (delivery d.proto d.source now b) fails (books_in server)).answer made out) same answer in
    let w = went socket (role.Server d.proto) d.source d.source fate.Answered (made_of (delivered now d) old new).answer made reply out history history_after became own refl is its sent in
    record {
      rest = w.rest;
      became = became;
      books = subst (λ b. books_in server_after ≡ (received server.topology (delivery d.proto d.source now b) fails (books_in server)).books) same books;
      calls = subst (λ b. IsCalledToSaveAt (received_saves server.topology (delivery d.proto d.source now b) (books_in server)) (device_of disk) (device_of disk_after)) same calls;
      goes_on = w.goes_on;
      tally = count;
      history = w.history;
      stays = record { topology = topology; regions = regions };
    }

pub received_again : (taken : List DeliveryValue) (answers : List (Result (List ℕ) Discard)) (j : ℕ) (d : DeliveryValue) (answer : Result (List ℕ) Discard) (old new : Serving) → slice_get taken j ≡ Some d → slice_get answers j ≡ Some answer
    → is_repeated answer ≡ true → IsAnswered d old new → IsReceivedAgainAt taken answers j old new
received_again taken answers j d answer old new there its is answered =
    record { its_datagram = d; its_answer = answer; taken_at = there; answered_at = its; received = subst (λ b. IsReceivedAgain b d old new) (sym is) answered }

pub answered_before : (now : ℕ) (taken : List Datagram) (answers : List (Result (List ℕ) Discard)) (j : ℕ) (answer : Result (List ℕ) Discard) (old : Serving) → j < length taken → slice_get answers j ≡ Some answer
    → is_repeated answer ≡ false → IsReceivedAgainAt (all_delivered now taken) answers j old old
answered_before now taken answers j answer old within its is =
    let there = is_there (all_delivered now taken) j (subst (λ n. j < n) (sym (length-map taken (delivered now))) within) in
    record { its_datagram = there.0; its_answer = answer; taken_at = there.1; answered_at = its; received = subst (λ b. IsReceivedAgain b there.0 old old) (sym is) refl }

pub again_more : (taken : List DeliveryValue) (answers : List (Result (List ℕ) Discard)) (n : ℕ) (old middle new : Serving) → AreReceivedAgain taken answers n old middle → IsReceivedAgainAt taken answers n middle new
    → AreReceivedAgain taken answers (n + 1) old new
again_more taken answers n old middle new before last =
    let more : suc n ≡ n + 1 = omega arith in
    let all : AreReceivedAgain taken answers (suc n) old new = (middle, before, last) in
    subst (λ k. AreReceivedAgain taken answers k old new) more all
