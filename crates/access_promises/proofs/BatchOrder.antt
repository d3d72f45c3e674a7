-- A batch: the first datagram of each circuit is received together with those of the others, any further one after that, alone.
use Rattle.std.proofs.Common.{◌≡◌, ◌∙◌, ◌≤◌, ℕ, zero, suc, Bool, true, false, cond, ◌||◌, List, [], ◌∷◌, ◌++◌, length, map, take, refl, sym, ap, ap₂, subst, append_assoc, append-nil, arith}
use Rattle.std.specs.Prelude.{Option, Some, None, slice_get, Result, if◌then◌else◌}
use Rattle.std.specs.List.{filter, list_any}
use Rattle.std.proofs.lemmas.Option.{same_Some, slice_get_past}
use Rattle.types.specs.Delivery.{DeliveryValue}
use Rattle.types.specs.declared.discard.Discard.{Discard}
use Rattle.types.specs.declared.discard.Discard.TheVariants.{BatchTwice}
use Rattle.config.specs.CircuitPart.{CircuitPart}
use Rattle.config.specs.Topology.{Topology}
use Rattle.requests.specs.Addressee.{addressee}
use Rattle.circuit_server.specs.Answered.{answered}
use Rattle.circuit_server.specs.Server.{Book}
use Rattle.dispatch.specs.Batch.{IsBatch, comes_again, is_named, part_received}
use Rattle.dispatch.specs.Received.{Received, drop_all, received}
use Rattle.dispatch.proofs.BatchLemmas.{circuit_is}
use Rattle.access.specs.Batch.{is_repeated}
use Rattle.access_promises.specs.Exchanges.{AreAlone, Exchange}
use Rattle.access_promises.specs.Own.{Receive, is_own}
use Rattle.access_promises.proofs.ExchangeLemmas.{exchange, own_book, own_exchange, own_received}
use Rattle.access_promises.proofs.NeverTwice.{never_repeated}
use Rattle.access_promises.proofs.Serves.{receives}
use Rattle.access_promises.proofs.StepLemmas.{alone_more, alone_none, alone_other}

abbrev pub Answer : Type 0
Answer = Result (List ℕ) Discard

abbrev pub Pair : Type 0
Pair = DeliveryValue × Answer

-- those that are answered with the batch, and the others
abbrev pub firsts : List DeliveryValue → List Answer → List Pair
firsts [] answers = []
firsts (d ∷ ds) [] = []
firsts (d ∷ ds) (a ∷ answers) = cond (is_repeated a) (firsts ds answers) ((d, a) ∷ firsts ds answers)

abbrev pub repeats : List DeliveryValue → List Answer → List DeliveryValue
repeats [] answers = []
repeats (d ∷ ds) [] = []
repeats (d ∷ ds) (a ∷ answers) = cond (is_repeated a) (d ∷ repeats ds answers) (repeats ds answers)

abbrev pub datagrams_of : List Pair → List DeliveryValue
datagrams_of = map (λ (p : Pair). p.0)

-- ---- lists

same_lists : {A : Type 0} (xs ys : List A) → ((i : ℕ) → slice_get xs i ≡ slice_get ys i) → xs ≡ ys
same_lists [] [] same = refl
same_lists [] (y ∷ ys) same = let never : None ≡ Some y = same 0 in absurd cc
same_lists (x ∷ xs) [] same = let never : Some x ≡ None = same 0 in absurd cc
same_lists (x ∷ xs) (y ∷ ys) same = λ i. same_Some x y (same 0) i ∷ same_lists xs ys (λ k. same (suc k)) i

past_all : {A : Type 0} (xs : List A) (i : ℕ) → slice_get xs i ≡ None → length xs ≤ i
past_all [] i none = omega arith
past_all (x ∷ xs) zero none = absurd cc
past_all (x ∷ xs) (suc i) none = let less = past_all xs i none in omega (arith, less)

get_seam : {A : Type 0} (xs ys : List A) (y : A) → slice_get (xs ++ y ∷ ys) (length xs) ≡ Some y
get_seam [] ys y = refl
get_seam (x ∷ xs) ys y = get_seam xs ys y

take_seam : {A : Type 0} (xs ys : List A) → take (length xs) (xs ++ ys) ≡ xs
take_seam [] ys = refl
take_seam (x ∷ xs) ys = ap (λ zs. x ∷ zs) (take_seam xs ys)

or_false : (b : Bool) → (b || false) ≡ b
or_false true = refl
or_false false = refl

any_last : {A : Type 0} (f : A → Bool) (xs : List A) (y : A) (b e : Bool) → list_any f xs ≡ b → f y ≡ e → list_any f (xs ++ y ∷ []) ≡ (b || e)
any_last f [] y b e none is = by b none where
  by : (b : Bool) → false ≡ b → (f y || false) ≡ (b || e)
  by true never = absurd cc
  by false same = or_false (f y) ∙ is
any_last f (x ∷ xs) y b e some is = by (f x) some (λ same. any_last f xs y b e same is) where
  by : (first : Bool) → (first || list_any f xs) ≡ b → (list_any f xs ≡ b → list_any f (xs ++ y ∷ []) ≡ (b || e)) → (first || list_any f (xs ++ y ∷ [])) ≡ (b || e)
  by true same rest = ap (λ b. b || e) same
  by false same rest = rest same

-- ---- the answers to a batch

module _ (topology : Topology) (fails : ℕ → Bool) (old : List (Option Book)) where
  abbrev pub answers_after : List DeliveryValue → List DeliveryValue → List Answer
  answers_after earlier [] = []
  answers_after earlier (d ∷ ds) = (part_received topology earlier d fails old).answer ∷ answers_after (earlier ++ d ∷ []) ds

  answer_at : (earlier ds : List DeliveryValue) (j : ℕ) (d : DeliveryValue) → slice_get ds j ≡ Some d
      → slice_get (answers_after earlier ds) j ≡ Some (part_received topology (earlier ++ take j ds) d fails old).answer
  answer_at earlier [] j d there = absurd cc
  answer_at earlier (e ∷ ds) zero d there = ap₂ (λ (x : List DeliveryValue) (y : DeliveryValue). Some (part_received topology x y fails old).answer) (sym (append-nil earlier)) (same_Some e d there)
  answer_at earlier (e ∷ ds) (suc j) d there =
      answer_at (earlier ++ e ∷ []) ds j d there ∙ ap (λ (x : List DeliveryValue). Some (part_received topology x d fails old).answer) (append_assoc earlier (e ∷ []) (take j ds))

  size_after : (earlier ds : List DeliveryValue) → length (answers_after earlier ds) ≡ length ds
  size_after earlier [] = refl
  size_after earlier (d ∷ ds) = ap suc (size_after (earlier ++ d ∷ []) ds)

  pub answers_are : (ds : List DeliveryValue) (new : List (Option Book)) (answers : List Answer) → IsBatch topology ds fails old new answers → answers ≡ answers_after [] ds
  answers_are ds new answers batch = same_lists answers (answers_after [] ds) (λ j. by j (slice_get ds j) refl) where
    by : (j : ℕ) (x : Option DeliveryValue) → slice_get ds j ≡ x → slice_get answers j ≡ slice_get (answers_after [] ds) j
    by j (Some d) there = batch.each j d there ∙ sym (answer_at [] ds j d there)
    by j None there =
        let all = past_all ds j there in
        let count = batch.count in
        let size = size_after [] ds in
        slice_get_past answers j (omega (arith, all, count)) ∙ sym (slice_get_past (answers_after [] ds) j (omega (arith, all, size)))

  abbrev pub made : List Pair → List Exchange
  made = map (λ (p : Pair). exchange topology fails p.0 p.1)

  -- what a part is answered, by whether an earlier one is of its circuit
  abbrev pub chosen : DeliveryValue → Bool → Received
  chosen d again = if again then drop_all BatchTwice old else received topology d fails old

  -- ---- one circuit's

  module _ (c : ℕ) (part : CircuitPart) (there : slice_get topology.circuits c ≡ Some part) where
    abbrev own : List DeliveryValue → List DeliveryValue
    own = filter (is_own topology c)

    abbrev where_own : {A : Type 0} → Bool → A → List A → List A
    where_own is x xs = cond is (x ∷ xs) xs

    -- after one of its datagrams all are repeated
    record AreLater (ds : List DeliveryValue) (answers : List Answer) : Type 0 where
      none : own (datagrams_of (firsts ds answers)) ≡ []
      rest : own (repeats ds answers) ≡ own ds
      alone : (b : Option Book) → AreAlone topology c part [] (made (firsts ds answers)) b b

    later_repeated : (d : DeliveryValue) (a : Answer) (ds : List DeliveryValue) (answers : List Answer) → is_repeated a ≡ true → AreLater ds answers → AreLater (d ∷ ds) (a ∷ answers)
    later_repeated d a ds answers again later = record {
      none = ap (λ r. own (datagrams_of (cond r (firsts ds answers) ((d, a) ∷ firsts ds answers)))) again ∙ later.none;
      rest = ap (λ r. own (cond r (d ∷ repeats ds answers) (repeats ds answers))) again ∙ ap (where_own (is_own topology c d) d) later.rest;
      alone = λ b. subst (λ r. AreAlone topology c part [] (made (cond r (firsts ds answers) ((d, a) ∷ firsts ds answers))) b b) (sym again) (later.alone b);
    }

    later_other : (d : DeliveryValue) (a : Answer) (ds : List DeliveryValue) (answers : List Answer) → is_repeated a ≡ false → is_own topology c d ≡ false → AreLater ds answers → AreLater (d ∷ ds) (a ∷ answers)
    later_other d a ds answers once other later = record {
      none = ap (λ r. own (datagrams_of (cond r (firsts ds answers) ((d, a) ∷ firsts ds answers)))) once
          ∙ (ap (λ o. where_own o d (own (datagrams_of (firsts ds answers)))) other ∙ later.none);
      rest = ap (λ r. own (cond r (d ∷ repeats ds answers) (repeats ds answers))) once ∙ (later.rest ∙ sym (ap (λ o. where_own o d (own ds)) other));
      alone = λ b. subst (λ r. AreAlone topology c part [] (made (cond r (firsts ds answers) ((d, a) ∷ firsts ds answers))) b b) (sym once)
          (alone_more topology c part [] [] (exchange topology fails d a ∷ []) (made (firsts ds answers)) b b b (alone_other topology c part (exchange topology fails d a) b other) (later.alone b));
    }

    named_own : (earlier : List DeliveryValue) (d : DeliveryValue) (before its : Bool) → is_named topology earlier c ≡ before → is_own topology c d ≡ its → is_named topology (earlier ++ d ∷ []) c ≡ (before || its)
    named_own earlier d before its was is = any_last (is_own topology c) earlier d before its was is

    all_later : (earlier ds : List DeliveryValue) → is_named topology earlier c ≡ true → AreLater ds (answers_after earlier ds)
    all_later earlier [] named = record { none = refl; rest = refl; alone = alone_none topology c part }
    all_later earlier (d ∷ ds) named =
        by (is_own topology c d) (is_repeated (part_received topology earlier d fails old).answer) refl refl (all_later (earlier ++ d ∷ []) ds (named_own earlier d true (is_own topology c d) named refl))
      where
        twice : is_own topology c d ≡ true → is_repeated (part_received topology earlier d fails old).answer ≡ true
        twice its =
            ap (λ r. is_repeated (chosen d (comes_again topology earlier r)).answer) (circuit_is c (addressee topology d) its)
            ∙ ap (λ again. is_repeated (chosen d again).answer) named

        by : (its repeated : Bool) → is_own topology c d ≡ its → is_repeated (part_received topology earlier d fails old).answer ≡ repeated → AreLater ds (answers_after (earlier ++ d ∷ []) ds) → AreLater (d ∷ ds) (answers_after earlier (d ∷ ds))
        by its true is again rest = later_repeated d (part_received topology earlier d fails old).answer ds (answers_after (earlier ++ d ∷ []) ds) again rest
        by false false other once rest = later_other d (part_received topology earlier d fails old).answer ds (answers_after (earlier ++ d ∷ []) ds) once other rest
        by true false its once rest = let never : true ≡ false = sym (twice its) ∙ once in absurd cc

    -- the first of its datagrams, if there is one, is answered with the batch
    pub record AreFirst (new : List (Option Book)) (ds : List DeliveryValue) (answers : List Answer) (b : Option Book) : Type 0 where
      pub after : Option Book
      pub alone : AreAlone topology c part (receives topology c (datagrams_of (firsts ds answers))) (made (firsts ds answers)) b after
      pub at : slice_get new c ≡ Some after
      pub order : own (datagrams_of (firsts ds answers)) ++ own (repeats ds answers) ≡ own ds

    first_own : (new : List (Option Book)) (d : DeliveryValue) (ds : List DeliveryValue) (answers : List Answer) (b : Option Book) → is_own topology c d ≡ true → slice_get old c ≡ Some b
        → slice_get new c ≡ slice_get (received topology d fails old).books c → AreLater ds answers → AreFirst new (d ∷ ds) ((received topology d fails old).answer ∷ answers) b
    first_own new d ds answers b its at book later = record {
      after = (answered part d (fails part.region) b).book;
      alone = subst (λ r. AreAlone topology c part (receives topology c (datagrams_of (cond r (firsts ds answers) ((d, a) ∷ firsts ds answers)))) (made (cond r (firsts ds answers) ((d, a) ∷ firsts ds answers))) b (answered part d (fails part.region) b).book) (sym once)
          (subst (λ steps. AreAlone topology c part steps (exchange topology fails d a ∷ made (firsts ds answers)) b (answered part d (fails part.region) b).book) (sym steps_are)
          (alone_more topology c part (Receive d ∷ []) [] (exchange topology fails d a ∷ []) (made (firsts ds answers)) b (answered part d (fails part.region) b).book (answered part d (fails part.region) b).book
          (own_exchange topology c part there d fails old b its at) (later.alone (answered part d (fails part.region) b).book)));
      at = book ∙ own_book topology c part there d fails old b its at;
      order = ap (λ r. own (datagrams_of (cond r (firsts ds answers) ((d, a) ∷ firsts ds answers))) ++ own (cond r (d ∷ repeats ds answers) (repeats ds answers))) once
          ∙ (ap (λ o. where_own o d (own (datagrams_of (firsts ds answers))) ++ own (repeats ds answers)) its
          ∙ (ap (λ l. d ∷ (l ++ own (repeats ds answers))) later.none ∙ (ap (λ l. d ∷ l) later.rest ∙ sym (ap (λ o. where_own o d (own ds)) its))));
    } where
      a : Answer
      a = (received topology d fails old).answer

      once : is_repeated (received topology d fails old).answer ≡ false
      once = ap (λ (r : Received). is_repeated r.answer) (own_received topology c part there d fails old b its at) ∙ never_repeated part d (fails part.region) b

      steps_are : receives topology c (d ∷ datagrams_of (firsts ds answers)) ≡ Receive d ∷ []
      steps_are = ap (λ o. map Receive (where_own o d (own (datagrams_of (firsts ds answers))))) its ∙ ap (λ l. Receive d ∷ map Receive l) later.none

    first_repeated : (new : List (Option Book)) (d : DeliveryValue) (a : Answer) (ds : List DeliveryValue) (answers : List Answer) (b : Option Book) → is_own topology c d ≡ false → is_repeated a ≡ true
        → AreFirst new ds answers b → AreFirst new (d ∷ ds) (a ∷ answers) b
    first_repeated new d a ds answers b other again first = record {
      after = first.after;
      alone = subst (λ r. AreAlone topology c part (receives topology c (datagrams_of (cond r (firsts ds answers) ((d, a) ∷ firsts ds answers)))) (made (cond r (firsts ds answers) ((d, a) ∷ firsts ds answers))) b first.after) (sym again) first.alone;
      at = first.at;
      order = ap (λ r. own (datagrams_of (cond r (firsts ds answers) ((d, a) ∷ firsts ds answers))) ++ own (cond r (d ∷ repeats ds answers) (repeats ds answers))) again
          ∙ (ap (λ o. own (datagrams_of (firsts ds answers)) ++ where_own o d (own (repeats ds answers))) other ∙ (first.order ∙ sym (ap (λ o. where_own o d (own ds)) other)));
    }

    first_other : (new : List (Option Book)) (d : DeliveryValue) (a : Answer) (ds : List DeliveryValue) (answers : List Answer) (b : Option Book) → is_own topology c d ≡ false → is_repeated a ≡ false
        → AreFirst new ds answers b → AreFirst new (d ∷ ds) (a ∷ answers) b
    first_other new d a ds answers b other once first = record {
      after = first.after;
      alone = subst (λ r. AreAlone topology c part (receives topology c (datagrams_of (cond r (firsts ds answers) ((d, a) ∷ firsts ds answers)))) (made (cond r (firsts ds answers) ((d, a) ∷ firsts ds answers))) b first.after) (sym once)
          (subst (λ o. AreAlone topology c part (map Receive (where_own o d (own (datagrams_of (firsts ds answers))))) (exchange topology fails d a ∷ made (firsts ds answers)) b first.after) (sym other)
          (alone_more topology c part [] (receives topology c (datagrams_of (firsts ds answers))) (exchange topology fails d a ∷ []) (made (firsts ds answers)) b b first.after (alone_other topology c part (exchange topology fails d a) b other) first.alone));
      at = first.at;
      order = ap (λ r. own (datagrams_of (cond r (firsts ds answers) ((d, a) ∷ firsts ds answers))) ++ own (cond r (d ∷ repeats ds answers) (repeats ds answers))) once
          ∙ (ap (λ o. where_own o d (own (datagrams_of (firsts ds answers))) ++ own (repeats ds answers)) other ∙ (first.order ∙ sym (ap (λ o. where_own o d (own ds)) other)));
    }

    module _ (whole : List DeliveryValue) (new : List (Option Book)) (answers : List Answer) (batch : IsBatch topology whole fails old new answers) (b : Option Book) (at : slice_get old c ≡ Some b) where
      book_of_first : (earlier later : List DeliveryValue) (d : DeliveryValue) → whole ≡ earlier ++ d ∷ later → is_own topology c d ≡ true → is_named topology earlier c ≡ false
          → slice_get new c ≡ slice_get (received topology d fails old).books c
      book_of_first earlier later d is its first =
          let before : take (length earlier) whole ≡ earlier = ap (take (length earlier)) is ∙ take_seam earlier (d ∷ later) in
          batch.books (length earlier) c d (ap (λ ds. slice_get ds (length earlier)) is ∙ get_seam earlier later d) (circuit_is c (addressee topology d) its) (ap (λ ds. is_named topology ds c) before ∙ first)

      all_first : (earlier ds : List DeliveryValue) → whole ≡ earlier ++ ds → is_named topology earlier c ≡ false → AreFirst new ds (answers_after earlier ds) b
      all_first earlier [] is unnamed = record {
        after = b;
        alone = alone_none topology c part b;
        at = batch.others c (ap (λ ds. is_named topology ds c) (is ∙ append-nil earlier) ∙ unnamed) ∙ at;
        order = refl;
      }
      all_first earlier (d ∷ ds) is unnamed =
          by (is_own topology c d) (is_repeated (part_received topology earlier d fails old).answer) refl refl
          (λ other. all_first (earlier ++ d ∷ []) ds (is ∙ sym (append_assoc earlier (d ∷ []) ds)) (named_own earlier d false false unnamed other))
        where
          alone : is_own topology c d ≡ true → (part_received topology earlier d fails old).answer ≡ (received topology d fails old).answer
          alone its =
              ap (λ r. (chosen d (comes_again topology earlier r)).answer) (circuit_is c (addressee topology d) its)
              ∙ ap (λ again. (chosen d again).answer) unnamed

          by : (its repeated : Bool) → is_own topology c d ≡ its → is_repeated (part_received topology earlier d fails old).answer ≡ repeated → (is_own topology c d ≡ false → AreFirst new ds (answers_after (earlier ++ d ∷ []) ds) b)
              → AreFirst new (d ∷ ds) (answers_after earlier (d ∷ ds)) b
          by true repeated its e rest =
              subst (λ a. AreFirst new (d ∷ ds) (a ∷ answers_after (earlier ++ d ∷ []) ds) b) (sym (alone its))
              (first_own new d ds (answers_after (earlier ++ d ∷ []) ds) b its at (book_of_first earlier ds d is its unnamed) (all_later (earlier ++ d ∷ []) ds (named_own earlier d false true unnamed its)))
          by false true other again rest = first_repeated new d (part_received topology earlier d fails old).answer ds (answers_after (earlier ++ d ∷ []) ds) b other again (rest other)
          by false false other once rest = first_other new d (part_received topology earlier d fails old).answer ds (answers_after (earlier ++ d ∷ []) ds) b other once (rest other)

      pub batch_firsts : AreFirst new whole answers b
      batch_firsts = subst (λ (given : List Answer). AreFirst new whole given b) (sym (answers_are whole new answers batch)) (all_first [] whole refl refl)
