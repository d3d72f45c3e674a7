-- What the server has saved when it acknowledges a lease.
use Rattle.std.proofs.Common.{◌≡◌, ◌∙◌, ℕ, Bool, true, false, List, [], ◌∷◌, map, take, refl, sym, ap, subst}
use Rattle.std.specs.Prelude.{Option, Some, slice_get, Result, Ok, IfSome}
use Rattle.std.specs.List.{filter}
use Rattle.std.specs.Option.{option_flatten}
use Rattle.std.proofs.lemmas.Option.{same_Some}
use Rattle.types.specs.Delivery.{DeliveryValue}
use Rattle.types.specs.declared.dest.Proto.{Proto}
use Rattle.types.specs.declared.discard.Discard.{Discard}
use Rattle.types.specs.declared.discard.Discard.TheVariants.{BatchTwice}
use Rattle.config.specs.CircuitPart.{CircuitPart, IsPart}
use Rattle.circuit_server.specs.Answered.{answered}
use Rattle.circuit_server.specs.Server.{Book}
use Rattle.dispatch.proofs.BatchLemmas.{circuit_is, first_there}
use Rattle.dispatch.specs.Batch.{comes_again, is_circuit, is_named, part_received}
use Rattle.dispatch.specs.Received.{Received, received}
use Rattle.dispatch.specs.ServerValue.{ServerValue, books_in}
use Rattle.requests.specs.Addressee.{addressee}
use Rattle.access.specs.Batch.{IsAnswered, IsReceived, Serving, failed_in, made_of}
use Rattle.promises.specs.Books.{IsBookOf}
use Rattle.promises.specs.Granted.{ClientOf, Grant, Granted, Stands}
use Rattle.promises.proofs.PoolLemmas.{HasLimits}
use Rattle.access_promises.specs.Exchanges.{book_in, failed_saves}
use Rattle.access_promises.specs.Own.{Receive, is_own}
use Rattle.access_promises.specs.Transactions.{IsSaved, lines_of, transaction_between}
use Rattle.access_promises.proofs.BatchOrder.{chosen}
use Rattle.access_promises.proofs.ExchangeLemmas.{exchange, one_exchange, own_book, own_received}
use Rattle.access_promises.proofs.LeaseLemmas.{grants_saved, own_at_end, unsent_grants}
use Rattle.access_promises.proofs.EachBook.{has_book}

pub book_there : (server : ServerValue) (c : ℕ) (part : CircuitPart) → slice_get server.topology.circuits c ≡ Some part → slice_get (books_in server) c ≡ Some (book_in server c)
book_there server c part there =
    let found = has_book server c part there in
    found.1 ∙ ap Some (sym (ap option_flatten found.1))

module _ (c : ℕ) (part : CircuitPart) (old new : Serving) (d : DeliveryValue) (p : Proto) (g : Grant (ClientOf p)) (own : is_own old.server.topology c d ≡ true) (there : slice_get old.server.topology.circuits c ≡ Some part)
    (sound : IsPart part) (begins : IfSome (book_in old.server c) (IsBookOf part)) where
  limits : HasLimits part
  limits = record { four = sound.pool4; six = sound.pool6 }

  at : slice_get (books_in old.server) c ≡ Some (book_in old.server c)
  at = book_there old.server c part there

  answer_alone : (received old.server.topology d (failed_in old new) (books_in old.server)).answer ≡ (answered part d (failed_in old new part.region) (book_in old.server c)).answer
  answer_alone = ap (λ (r : Received). r.answer) (own_received old.server.topology c part there d (failed_in old new) (books_in old.server) (book_in old.server c) own at)

  book_alone_is : slice_get (books_in new.server) c ≡ slice_get (received old.server.topology d (failed_in old new) (books_in old.server)).books c
      → book_in new.server c ≡ (answered part d (failed_in old new part.region) (book_in old.server c)).book
  book_alone_is same = ap option_flatten (same ∙ own_book old.server.topology c part there d (failed_in old new) (books_in old.server) (book_in old.server c) own at)

  saved_by : (answer : Result (List ℕ) Discard) → answer ≡ (received old.server.topology d (failed_in old new) (books_in old.server)).answer
      → slice_get (books_in new.server) c ≡ slice_get (received old.server.topology d (failed_in old new) (books_in old.server)).books c
      → Stands (Granted p g) (lines_of part (transaction_between c part d answer old new)) → IsSaved part p g (transaction_between c part d answer old new)
  saved_by answer is same stands =
      (grants_saved part limits p g (record { datagram = d; failed = failed_in old new part.region; answer = answer }) (book_in old.server c) (book_in new.server c) begins (is ∙ answer_alone) (book_alone_is same) stands).saved

  pub saved_alone : IsAnswered d old new → Stands (Granted p g) (lines_of part (transaction_between c part d (made_of d old new).answer old new))
      → IsSaved part p g (transaction_between c part d (made_of d old new).answer old new)
  saved_alone its stands = saved_by (made_of d old new).answer refl (ap (λ books. slice_get books c) its.books) stands

  pub saved_together : (j : ℕ) (taken : List DeliveryValue) (answers : List (Result (List ℕ) Discard)) (answer : Result (List ℕ) Discard) → IsReceived taken answers old new → slice_get taken j ≡ Some d
      → slice_get answers j ≡ Some answer → Stands (Granted p g) (lines_of part (transaction_between c part d answer old new)) → IsSaved part p g (transaction_between c part d answer old new)
  saved_together j taken answers answer its taken_at answered_at stands = by (is_named old.server.topology (take j taken) c) refl where
    to_circuit : addressee old.server.topology d ≡ Ok c
    to_circuit = circuit_is c (addressee old.server.topology d) own

    answer_is : answer ≡ (part_received old.server.topology (take j taken) d (failed_in old new) (books_in old.server)).answer
    answer_is = same_Some answer (part_received old.server.topology (take j taken) d (failed_in old new) (books_in old.server)).answer (sym answered_at ∙ its.batch.each j d taken_at)

    by_again : (again : Bool) → is_named old.server.topology (take j taken) c ≡ again → answer ≡ (chosen old.server.topology (failed_in old new) (books_in old.server) d again).answer
    by_again again named =
        answer_is ∙ (ap (λ r. (chosen old.server.topology (failed_in old new) (books_in old.server) d (comes_again old.server.topology (take j taken) r)).answer) to_circuit
        ∙ ap (λ again. (chosen old.server.topology (failed_in old new) (books_in old.server) d again).answer) named)

    by : (again : Bool) → is_named old.server.topology (take j taken) c ≡ again → IsSaved part p g (transaction_between c part d answer old new)
    by true named =
        absurd (unsent_grants part limits p g (record { datagram = d; failed = failed_in old new part.region; answer = answer }) (book_in old.server c) (book_in new.server c) BatchTwice begins (by_again true named) stands)
    by false named = saved_by answer (by_again false named) (its.batch.books j c d taken_at to_circuit named) stands

-- ---- its books are books of its pools

module _ (c : ℕ) (part : CircuitPart) (old new : Serving) (there : slice_get old.server.topology.circuits c ≡ Some part) (sound : IsPart part) (begins : IfSome (book_in old.server c) (IsBookOf part)) where
  abbrev IsOwn : Option Book → Type 0
  IsOwn b = IfSome b (IsBookOf part)

  after_one : (d : DeliveryValue) → IsOwn (option_flatten (slice_get (made_of d old new).books c))
  after_one d =
      let topology = old.server.topology in
      let fails = failed_in old new in
      let one = one_exchange topology c part there d fails (books_in old.server) (book_in old.server c) (book_there old.server c part there) in
      subst IsOwn (sym (ap option_flatten one.at ∙ one.alone.book))
      (own_at_end part (record { four = sound.pool4; six = sound.pool6 }) (map Receive (filter (is_own topology c) (d ∷ []))) (failed_saves topology c (exchange topology fails d (made_of d old new).answer ∷ []))
      (book_in old.server c) begins)

  pub own_alone : (d : DeliveryValue) → IsAnswered d old new → IsOwn (book_in new.server c)
  own_alone d its = subst IsOwn (sym (ap (λ books. option_flatten (slice_get books c)) its.books)) (after_one d)

  pub own_together : (taken : List DeliveryValue) (answers : List (Result (List ℕ) Discard)) → IsReceived taken answers old new → IsOwn (book_in new.server c)
  own_together taken answers its = by (is_named old.server.topology taken c) refl where
    by : (named : Bool) → is_named old.server.topology taken c ≡ named → IsOwn (book_in new.server c)
    by true any =
        let first = first_there (λ d. is_circuit c (addressee old.server.topology d)) taken any in
        subst IsOwn (sym (ap option_flatten (its.batch.books first.0 c first.1 first.2 (circuit_is c (addressee old.server.topology first.1) first.3) first.4))) (after_one first.1)
    by false none = subst IsOwn (sym (ap option_flatten (its.batch.others c none))) begins
