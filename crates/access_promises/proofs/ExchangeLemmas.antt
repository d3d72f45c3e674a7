-- One datagram at the server, as each circuit's server has it.
use Rattle.std.proofs.Common.{◌≡◌, ◌∙◌, ℕ, zero, suc, Bool, true, false, cond, List, [], ◌∷◌, map, refl, sym, ap, ap₂, subst, ◌==◌}
use Rattle.std.specs.Prelude.{Option, Some, None, slice_get, slice_set, Result, Ok, Err}
use Rattle.std.specs.List.{filter}
use Rattle.types.specs.Delivery.{DeliveryValue}
use Rattle.types.specs.declared.discard.Discard.{Discard}
use Rattle.config.specs.CircuitPart.{CircuitPart}
use Rattle.config.specs.Topology.{Topology}
use Rattle.requests.specs.Addressee.{addressee}
use Rattle.circuit_server.specs.Answered.{answered}
use Rattle.circuit_server.specs.Server.{Book}
use Rattle.dispatch.specs.Batch.{is_circuit}
use Rattle.dispatch.specs.Received.{Received, addressee_answered, circuit_answered, received, with_answered}
use Rattle.dispatch.proofs.BatchLemmas.{circuit_is, get_set}
use Rattle.dispatch.proofs.PartLemmas.{not_both, same_number}
use Rattle.access_promises.specs.Exchanges.{AreAlone, Exchange, DropsStray}
use Rattle.access_promises.specs.Own.{Receive, is_own}
use Rattle.access_promises.proofs.StepLemmas.{alone_one, alone_other}

set_elsewhere : {A : Type 0} (xs : List A) (c k : ℕ) (x : A) → (c ≡ k → ⊥) → slice_get (slice_set xs c x) k ≡ slice_get xs k
set_elsewhere [] c k x apart = refl
set_elsewhere (y ∷ xs) zero zero x apart = absurd (apart refl)
set_elsewhere (y ∷ xs) zero (suc k) x apart = refl
set_elsewhere (y ∷ xs) (suc c) zero x apart = refl
set_elsewhere (y ∷ xs) (suc c) (suc k) x apart = set_elsewhere xs c k x (λ same. apart (ap suc same))

-- ---- whether its save fails

abbrev fails_in : (ℕ → Bool) → Option CircuitPart → Bool
fails_in fails None = false
fails_in fails (Some part) = fails part.region

abbrev fails_of : Topology → (ℕ → Bool) → Result ℕ Discard → Bool
fails_of topology fails (Err why) = false
fails_of topology fails (Ok c) = fails_in fails (slice_get topology.circuits c)

abbrev pub exchange : Topology → (ℕ → Bool) → DeliveryValue → Result (List ℕ) Discard → Exchange
exchange topology fails d answer = record { datagram = d; failed = fails_of topology fails (addressee topology d); answer = answer }

pub stray_one : (topology : Topology) (d : DeliveryValue) (fails : ℕ → Bool) (books : List (Option Book)) → DropsStray topology (exchange topology fails d (received topology d fails books).answer)
stray_one topology d fails books why found = ap (λ r. (addressee_answered topology d fails books r).answer) found

module _ (topology : Topology) (c : ℕ) (part : CircuitPart) (there : slice_get topology.circuits c ≡ Some part) (d : DeliveryValue) (fails : ℕ → Bool) (books : List (Option Book)) where
  -- ---- of another circuit

  circuit_elsewhere : (k : ℕ) (its : Option CircuitPart) (book : Option (Option Book)) → (k == c) ≡ false → slice_get (circuit_answered k d fails books its book).books c ≡ slice_get books c
  circuit_elsewhere k (Some its) (Some book) apart = set_elsewhere books k c (answered its d (fails its.region) book).book (λ same. not_both (ap (λ n. n == c) same ∙ same_number c) apart)
  circuit_elsewhere k (Some its) None apart = refl
  circuit_elsewhere k None (Some book) apart = refl
  circuit_elsewhere k None None apart = refl

  elsewhere : (r : Result ℕ Discard) → is_circuit c r ≡ false → slice_get (addressee_answered topology d fails books r).books c ≡ slice_get books c
  elsewhere (Err why) other = refl
  elsewhere (Ok k) other = circuit_elsewhere k (slice_get topology.circuits k) (slice_get books k) other

  pub stays : is_own topology c d ≡ false → slice_get (received topology d fails books).books c ≡ slice_get books c
  stays other = elsewhere (addressee topology d) other

  -- ---- of this one

  pub own_received : (b : Option Book) → is_own topology c d ≡ true → slice_get books c ≡ Some b → received topology d fails books ≡ with_answered c books (answered part d (fails part.region) b)
  own_received b own at = ap (addressee_answered topology d fails books) (circuit_is c (addressee topology d) own) ∙ ap₂ (circuit_answered c d fails books) there at

  pub own_book : (b : Option Book) → is_own topology c d ≡ true → slice_get books c ≡ Some b → slice_get (received topology d fails books).books c ≡ Some (answered part d (fails part.region) b).book
  own_book b own at = ap (λ (r : Received). slice_get r.books c) (own_received b own at) ∙ get_set books c b (answered part d (fails part.region) b).book at

  pub failed_so : is_own topology c d ≡ true → fails_of topology fails (addressee topology d) ≡ fails part.region
  failed_so own = ap (fails_of topology fails) (circuit_is c (addressee topology d) own) ∙ ap (fails_in fails) there

  pub own_exchange : (b : Option Book) → is_own topology c d ≡ true → slice_get books c ≡ Some b
      → AreAlone topology c part (Receive d ∷ []) (exchange topology fails d (received topology d fails books).answer ∷ []) b (answered part d (fails part.region) b).book
  own_exchange b own at =
      let x = exchange topology fails d (received topology d fails books).answer in
      let same = failed_so own in
      subst (λ f. AreAlone topology c part (Receive d ∷ []) (x ∷ []) b (answered part d f b).book) same
      (alone_one topology c part x b own (ap (λ (r : Received). r.answer) (own_received b own at) ∙ ap (λ f. (answered part d f b).answer) (sym same)))

  -- ---- of either

  pub one_own : (own : Bool) → is_own topology c d ≡ own → filter (is_own topology c) (d ∷ []) ≡ cond own (d ∷ []) []
  one_own own is = ap (λ b. cond b (d ∷ []) []) is

  pub record IsOneOf (b : Option Book) : Type 0 where
    pub after : Option Book
    pub alone : AreAlone topology c part (map Receive (filter (is_own topology c) (d ∷ []))) (exchange topology fails d (received topology d fails books).answer ∷ []) b after
    pub at : slice_get (received topology d fails books).books c ≡ Some after

  pub one_exchange : (b : Option Book) → slice_get books c ≡ Some b → IsOneOf b
  one_exchange b at = by (is_own topology c d) refl where
    by : (own : Bool) → is_own topology c d ≡ own → IsOneOf b
    by true own = record {
      after = (answered part d (fails part.region) b).book;
      alone = subst (λ ds. AreAlone topology c part (map Receive ds) (exchange topology fails d (received topology d fails books).answer ∷ []) b (answered part d (fails part.region) b).book) (sym (one_own true own)) (own_exchange b own at);
      at = own_book b own at;
    }
    by false other = record {
      after = b;
      alone = subst (λ ds. AreAlone topology c part (map Receive ds) (exchange topology fails d (received topology d fails books).answer ∷ []) b b) (sym (one_own false other)) (alone_other topology c part (exchange topology fails d (received topology d fails books).answer) b other);
      at = stays other ∙ at;
    }
