-- A batch of parts of different circuits is its parts one after the other.
use Rattle.std.proofs.Common.{◌≡◌, ◌∙◌, ◌≤◌, ◌==◌, ℕ, zero, suc, Bool, true, false, List, [], ◌∷◌, length, take, refl, sym, ap, arith}
use Rattle.std.specs.Prelude.{Option, Some, None, Result, Ok, Err, slice_get, slice_set, if◌then◌else◌}
use Rattle.std.proofs.lemmas.Option.{same_Some, slice_get_past}
use Rattle.types.specs.Delivery.{DeliveryValue}
use Rattle.types.specs.declared.discard.Discard.{Discard}
use Rattle.types.specs.declared.discard.Discard.TheVariants.{BatchTwice}
use Rattle.config.specs.CircuitPart.{CircuitPart}
use Rattle.config.specs.Topology.{Topology}
use Rattle.requests.specs.Addressee.{addressee}
use Rattle.circuit_server.specs.Server.{Book}
use Rattle.circuit_server.specs.Answered.{answered}
use Rattle.dispatch.specs.Batch.{IsBatch, comes_again, is_circuit, is_named}
use Rattle.dispatch.specs.OneByOne.{AreOfOthers, answers_to, books_after}
use Rattle.dispatch.specs.Received.{addressee_answered, circuit_answered, drop_all, received}
use Rattle.dispatch.proofs.BatchLemmas.{circuit_is, first_there, get_set}
use Rattle.dispatch.proofs.PartLemmas.{left_false, not_both, right_false, same_number}

-- ---- lists

same_lists : {A : Type 0} (xs ys : List A) → ((i : ℕ) → slice_get xs i ≡ slice_get ys i) → xs ≡ ys
same_lists [] [] same = refl
same_lists [] (y ∷ ys) same = let never : None ≡ Some y = same 0 in absurd cc
same_lists (x ∷ xs) [] same = let never : Some x ≡ None = same 0 in absurd cc
same_lists (x ∷ xs) (y ∷ ys) same = λ i. same_Some x y (same 0) i ∷ same_lists xs ys (λ k. same (suc k)) i

past_all : {A : Type 0} (xs : List A) (i : ℕ) → slice_get xs i ≡ None → length xs ≤ i
past_all [] i none = omega arith
past_all (x ∷ xs) zero none = absurd cc
past_all (x ∷ xs) (suc i) none = let less = past_all xs i none in omega (arith, less)

pub set_elsewhere : {A : Type 0} (xs : List A) (c k : ℕ) (x : A) → (c ≡ k → ⊥) → slice_get (slice_set xs c x) k ≡ slice_get xs k
set_elsewhere [] c k x apart = refl
set_elsewhere (y ∷ xs) zero zero x apart = absurd (apart refl)
set_elsewhere (y ∷ xs) zero (suc k) x apart = refl
set_elsewhere (y ∷ xs) (suc c) zero x apart = refl
set_elsewhere (y ∷ xs) (suc c) (suc k) x apart = set_elsewhere xs c k x (λ same. apart (ap suc same))

-- ---- one datagram

module _ (topology : Topology) (fails : ℕ → Bool) where
  circuit_elsewhere : (c k : ℕ) (d : DeliveryValue) (books : List (Option Book)) (part : Option CircuitPart) (book : Option (Option Book)) → (c == k) ≡ false → slice_get (circuit_answered c d fails books part book).books k ≡ slice_get books k
  circuit_elsewhere c k d books (Some part) (Some book) apart = set_elsewhere books c k (answered part d (fails part.region) book).book (λ same. not_both (ap (λ n. n == k) same ∙ same_number k) apart)
  circuit_elsewhere c k d books (Some part) None apart = refl
  circuit_elsewhere c k d books None (Some book) apart = refl
  circuit_elsewhere c k d books None None apart = refl

  -- it changes the book of its own circuit alone
  elsewhere : (d : DeliveryValue) (books : List (Option Book)) (k : ℕ) (r : Result ℕ Discard) → is_circuit k r ≡ false → slice_get (addressee_answered topology d fails books r).books k ≡ slice_get books k
  elsewhere d books k (Err why) other = refl
  elsewhere d books k (Ok c) other = circuit_elsewhere c k d books (slice_get topology.circuits c) (slice_get books c) other

  circuit_answer : (c : ℕ) (d : DeliveryValue) (books others : List (Option Book)) (part : Option CircuitPart) (book : Option (Option Book)) → (circuit_answered c d fails books part book).answer ≡ (circuit_answered c d fails others part book).answer
  circuit_answer c d books others (Some part) (Some book) = refl
  circuit_answer c d books others (Some part) None = refl
  circuit_answer c d books others None (Some book) = refl
  circuit_answer c d books others None None = refl

  -- and is answered by that book alone
  own_answer : (d : DeliveryValue) (books others : List (Option Book)) (r : Result ℕ Discard) → ((c : ℕ) → r ≡ Ok c → slice_get books c ≡ slice_get others c) → (addressee_answered topology d fails books r).answer ≡ (addressee_answered topology d fails others r).answer
  own_answer d books others (Err why) same = refl
  own_answer d books others (Ok c) same =
      circuit_answer c d books others (slice_get topology.circuits c) (slice_get books c) ∙ ap (λ book. (circuit_answered c d fails others (slice_get topology.circuits c) book).answer) (same c refl)

  circuit_book : (c : ℕ) (d : DeliveryValue) (books others : List (Option Book)) (part : Option CircuitPart) (book : Option (Option Book)) → slice_get books c ≡ book → slice_get others c ≡ book
      → slice_get (circuit_answered c d fails books part book).books c ≡ slice_get (circuit_answered c d fails others part book).books c
  circuit_book c d books others (Some part) (Some book) here there =
      get_set books c book (answered part d (fails part.region) book).book here ∙ sym (get_set others c book (answered part d (fails part.region) book).book there)
  circuit_book c d books others (Some part) None here there = here ∙ sym there
  circuit_book c d books others None (Some book) here there = here ∙ sym there
  circuit_book c d books others None None here there = here ∙ sym there

  own_book : (d : DeliveryValue) (books others : List (Option Book)) (c : ℕ) → addressee topology d ≡ Ok c → slice_get books c ≡ slice_get others c → slice_get (received topology d fails books).books c ≡ slice_get (received topology d fails others).books c
  own_book d books others c found same =
      ap (λ r. slice_get (addressee_answered topology d fails books r).books c) found
      ∙ circuit_book c d books others (slice_get topology.circuits c) (slice_get books c) refl (sym same)
      ∙ ap (λ book. slice_get (circuit_answered c d fails others (slice_get topology.circuits c) book).books c) same
      ∙ sym (ap (λ r. slice_get (addressee_answered topology d fails others r).books c) found)

  -- ---- all of them

  later_apart : (d : DeliveryValue) (ds : List DeliveryValue) → AreOfOthers topology (d ∷ ds) → AreOfOthers topology ds
  later_apart d ds apart j c e there found = right_false (is_circuit c (addressee topology d)) (is_named topology (take j ds) c) (apart (suc j) c e there found)

  answer_at : (ds : List DeliveryValue) (books : List (Option Book)) → AreOfOthers topology ds → (j : ℕ) (d : DeliveryValue) → slice_get ds j ≡ Some d → slice_get (answers_to topology fails ds books) j ≡ Some (received topology d fails books).answer
  answer_at [] books apart j d there = absurd cc
  answer_at (e ∷ ds) books apart zero d there = ap (λ x. Some (received topology x fails books).answer) (same_Some e d there)
  answer_at (e ∷ ds) books apart (suc j) d there =
      answer_at ds (received topology e fails books).books (later_apart e ds apart) j d there
      ∙ ap Some (own_answer d (received topology e fails books).books books (addressee topology d)
      (λ c found. elsewhere e books c (addressee topology e) (left_false (is_circuit c (addressee topology e)) (is_named topology (take j ds) c) (apart (suc j) c d there found))))

  answers_past : (ds : List DeliveryValue) (books : List (Option Book)) → length (answers_to topology fails ds books) ≡ length ds
  answers_past [] books = refl
  answers_past (d ∷ ds) books = ap suc (answers_past ds (received topology d fails books).books)

  book_unnamed : (ds : List DeliveryValue) (books : List (Option Book)) (c : ℕ) → is_named topology ds c ≡ false → slice_get (books_after topology fails ds books) c ≡ slice_get books c
  book_unnamed [] books c none = refl
  book_unnamed (d ∷ ds) books c none =
      book_unnamed ds (received topology d fails books).books c (right_false (is_circuit c (addressee topology d)) (is_named topology ds c) none)
      ∙ elsewhere d books c (addressee topology d) (left_false (is_circuit c (addressee topology d)) (is_named topology ds c) none)

  -- a circuit's first part is its last
  none_later : (d : DeliveryValue) (ds : List DeliveryValue) (c : ℕ) → AreOfOthers topology (d ∷ ds) → addressee topology d ≡ Ok c → is_named topology ds c ≡ false
  none_later d ds c apart found = by (is_named topology ds c) refl where
    by : (b : Bool) → is_named topology ds c ≡ b → is_named topology ds c ≡ false
    by false e = e
    by true e =
        let one = first_there (λ x. is_circuit c (addressee topology x)) ds e in
        let first = left_false (is_circuit c (addressee topology d)) (is_named topology (take one.0 ds) c) (apart (suc one.0) c one.1 one.2 (circuit_is c (addressee topology one.1) one.3)) in
        absurd (not_both (ap (is_circuit c) found ∙ same_number c) first)

  book_at : (ds : List DeliveryValue) (books : List (Option Book)) → AreOfOthers topology ds → (j c : ℕ) (d : DeliveryValue) → slice_get ds j ≡ Some d → addressee topology d ≡ Ok c → slice_get (books_after topology fails ds books) c ≡ slice_get (received topology d fails books).books c
  book_at [] books apart j c d there found = absurd cc
  book_at (e ∷ ds) books apart zero c d there found =
      let same : e ≡ d = same_Some e d there in
      book_unnamed ds (received topology e fails books).books c (none_later e ds c apart (ap (addressee topology) same ∙ found)) ∙ ap (λ x. slice_get (received topology x fails books).books c) same
  book_at (e ∷ ds) books apart (suc j) c d there found =
      book_at ds (received topology e fails books).books (later_apart e ds apart) j c d there found
      ∙ own_book d (received topology e fails books).books books c found
      (elsewhere e books c (addressee topology e) (left_false (is_circuit c (addressee topology e)) (is_named topology (take j ds) c) (apart (suc j) c d there found)))

  -- ---- a batch

  again_none : (ds : List DeliveryValue) → AreOfOthers topology ds → (j : ℕ) (d : DeliveryValue) → slice_get ds j ≡ Some d → (r : Result ℕ Discard) → addressee topology d ≡ r → comes_again topology (take j ds) r ≡ false
  again_none ds apart j d there (Err why) found = refl
  again_none ds apart j d there (Ok c) found = apart j c d there found

  pub batch_answers : (ds : List DeliveryValue) (old new : List (Option Book)) (answers : List (Result (List ℕ) Discard)) → AreOfOthers topology ds → IsBatch topology ds fails old new answers → answers ≡ answers_to topology fails ds old
  batch_answers ds old new answers apart batch = same_lists answers (answers_to topology fails ds old) (λ j. by j (slice_get ds j) refl) where
    by : (j : ℕ) (x : Option DeliveryValue) → slice_get ds j ≡ x → slice_get answers j ≡ slice_get (answers_to topology fails ds old) j
    by j (Some d) there =
        batch.each j d there
        ∙ ap (λ b. Some (if b then drop_all BatchTwice old else received topology d fails old).answer) (again_none ds apart j d there (addressee topology d) refl)
        ∙ sym (answer_at ds old apart j d there)
    by j None there =
        let all = past_all ds j there in
        let count = batch.count in
        let size = answers_past ds old in
        slice_get_past answers j (omega (arith, all, count)) ∙ sym (slice_get_past (answers_to topology fails ds old) j (omega (arith, all, size)))

  pub batch_books : (ds : List DeliveryValue) (old new : List (Option Book)) (answers : List (Result (List ℕ) Discard)) → AreOfOthers topology ds → IsBatch topology ds fails old new answers → new ≡ books_after topology fails ds old
  batch_books ds old new answers apart batch = same_lists new (books_after topology fails ds old) (λ c. by c (is_named topology ds c) refl) where
    by : (c : ℕ) (b : Bool) → is_named topology ds c ≡ b → slice_get new c ≡ slice_get (books_after topology fails ds old) c
    by c false e = batch.others c e ∙ sym (book_unnamed ds old c e)
    by c true e =
        let one = first_there (λ x. is_circuit c (addressee topology x)) ds e in
        let found = circuit_is c (addressee topology one.1) one.3 in
        batch.books one.0 c one.1 one.2 found one.4 ∙ sym (book_at ds old apart one.0 c one.1 one.2 found)

  -- and so are its parts a batch
  pub batch_back : (ds : List DeliveryValue) (old new : List (Option Book)) (answers : List (Result (List ℕ) Discard)) → AreOfOthers topology ds → answers ≡ answers_to topology fails ds old → new ≡ books_after topology fails ds old → IsBatch topology ds fails old new answers
  batch_back ds old new answers apart given after = record {
    count = ap (λ (xs : List (Result (List ℕ) Discard)). length xs) given ∙ answers_past ds old;
    each = λ j d there.
        ap (λ (xs : List (Result (List ℕ) Discard)). slice_get xs j) given
        ∙ answer_at ds old apart j d there
        ∙ sym (ap (λ b. Some (if b then drop_all BatchTwice old else received topology d fails old).answer) (again_none ds apart j d there (addressee topology d) refl));
    books = λ j c d there found first. ap (λ (xs : List (Option Book)). slice_get xs c) after ∙ book_at ds old apart j c d there found;
    others = λ c none. ap (λ (xs : List (Option Book)). slice_get xs c) after ∙ book_unnamed ds old c none;
  }
