-- Slots of which only so many may be held: no other has to be looked at.
use Rattle.std.proofs.Common.{◌≡◌, ◌⊎◌, inl, inr, ℕ, zero, suc, ◌+◌, ◌==◌, ◌<◌, ◌≤◌, Bool, true, false, cond, [], ◌∷◌, length, take, set, get_or, refl, sym, ap, subst, ◌∙◌, arith, nat_lt, nat_le, ◌&&◌}
use Rattle.std.specs.Prelude.{Option, Some, None, is_some}
use Rattle.std.specs.List.{position, position_from}
use Rattle.std.proofs.lemmas.Iterator.Adapters.{position_from-zero}
use Rattle.std.proofs.lemmas.List.{length-set, get_or-set_other, get_or_past}
use Rattle.std.specs.Option.{option_or}
use Rattle.slots.specs.declared.holder.Holder.{Holder}
use Rattle.slots.specs.Lookup.{is_vacant}
use Rattle.slots.specs.Slots.{is_clients, with_vacancy, without_lessee, with_slot, client_of}
use Rattle.slots.specs.Used.{IsUsed, used_after}
use Rattle.slots.proofs.ShownLemmas.{Slots}

less_more : (n m : ℕ) → nat_lt n m ≡ nat_lt (suc n) (suc m)
less_more n m = by (nat_lt n m) refl where
  by : (b : Bool) → nat_lt n m ≡ b → b ≡ nat_lt (suc n) (suc m)
  by true is = let less : n < m = grind arith in let more : nat_lt (suc n) (suc m) ≡ true = grind (arith, less) in sym more
  by false is = let least : m ≤ n = grind arith in let more : nat_lt (suc n) (suc m) ≡ false = grind (arith, least) in sym more

some_behind : (m : ℕ) → nat_lt 0 (suc m) ≡ true
some_behind m = let more : 0 < suc m = omega arith in grind (arith, more)

pub from_first : (first next : Option ℕ) → is_some first ≡ true → option_or first next ≡ first
from_first None next some = absurd cc
from_first (Some i) next some = refl

pub from_next : (first next : Option ℕ) → is_some first ≡ false → option_or first next ≡ next
from_next None next none = refl
from_next (Some i) next none = absurd cc

module _ {K : Type 0} where
  -- nobody holds any of these
  abbrev AreFree : ℕ → Slots K → Type 0
  AreFree n ss = (i : ℕ) → n ≤ i → get_or ss i None ≡ None

  free_behind : (n : ℕ) (s : Option (Holder K)) (ss : Slots K) → AreFree (suc n) (s ∷ ss) → AreFree n ss
  free_behind n s ss free = λ i from. free (suc i) (omega (arith, from))

  -- ---- the first slot that passes a test which a free one fails

  none_free : (test : Option (Holder K) → Bool) → test None ≡ false → (j : ℕ) (ss : Slots K) → AreFree 0 ss → position_from test j ss ≡ None
  none_free test fails j [] free = refl
  none_free test fails j (s ∷ ss) free =
      let this : test s ≡ false = ap test (free 0 (omega arith)) ∙ fails in
      ap (λ b. cond b (Some j) (position_from test (j + 1) ss)) this ∙ none_free test fails (j + 1) ss (λ i from. free (suc i) (omega arith))

  first_of_used : (test : Option (Holder K) → Bool) → test None ≡ false → (j n : ℕ) (ss : Slots K) → AreFree n ss → position_from test j (take n ss) ≡ position_from test j ss
  first_of_used test fails j zero ss free = sym (none_free test fails j ss free)
  first_of_used test fails j (suc n) [] free = refl
  first_of_used test fails j (suc n) (s ∷ ss) free = ap (cond (test s) (Some j)) (first_of_used test fails (j + 1) n ss (free_behind n s ss free))

  pub first_used : (test : Option (Holder K) → Bool) → test None ≡ false → (n : ℕ) (ss : Slots K) → IsUsed n ss → position test (take n ss) ≡ position test ss
  first_used test fails n ss used =
      position_from-zero test (take n ss) ∙ first_of_used test fails 0 n ss used.free ∙ sym (position_from-zero test ss)

  -- ---- the first vacant one

  abbrev pub next : ℕ → ℕ → Slots K → Option ℕ
  next j n ss = cond (nat_lt n (length ss)) (Some (j + n)) None

  more_behind : (j n : ℕ) (s : Option (Holder K)) (ss : Slots K) → next (j + 1) n ss ≡ next j (suc n) (s ∷ ss)
  more_behind j n s ss = λ i. cond (same i) (Some (index i)) None where
    same : nat_lt n (length ss) ≡ nat_lt (suc n) (length (s ∷ ss))
    same = less_more n (length ss)

    index : (j + 1) + n ≡ j + suc n
    index = omega arith

  vacant_from : (t j n : ℕ) (ss : Slots K) → n ≤ length ss → AreFree n ss → position_from (is_vacant t) j ss ≡ option_or (position_from (is_vacant t) j (take n ss)) (next j n ss)
  vacant_from t j zero [] within free = refl
  vacant_from t j zero (s ∷ ss) within free =
      let this : is_vacant t s ≡ true = ap (is_vacant t) (free 0 (omega arith)) in
      let index : j ≡ j + 0 = omega arith in
      ap (λ b. cond b (Some j) (position_from (is_vacant t) (j + 1) ss)) this ∙ ap Some index ∙ ap (λ b. cond b (Some (j + 0)) None) (sym (some_behind (length ss)))
  vacant_from t j (suc n) [] within free = absurd (omega (arith, within))
  vacant_from t j (suc n) (s ∷ ss) within free =
      by (is_vacant t s) (vacant_from t (j + 1) n ss (omega (arith, within)) (free_behind n s ss free)) where
        by : (b : Bool) → position_from (is_vacant t) (j + 1) ss ≡ option_or (position_from (is_vacant t) (j + 1) (take n ss)) (next (j + 1) n ss)
            → cond b (Some j) (position_from (is_vacant t) (j + 1) ss) ≡ option_or (cond b (Some j) (position_from (is_vacant t) (j + 1) (take n ss))) (next j (suc n) (s ∷ ss))
        by true rest = refl
        by false rest = rest ∙ ap (option_or (position_from (is_vacant t) (j + 1) (take n ss))) (more_behind j n s ss)

  pub vacant_used : (t n : ℕ) (ss : Slots K) → IsUsed n ss → position (is_vacant t) ss ≡ option_or (position (is_vacant t) (take n ss)) (next 0 n ss)
  vacant_used t n ss used =
      position_from-zero (is_vacant t) ss ∙ vacant_from t 0 n ss used.within used.free ∙ ap (λ first. option_or first (next 0 n ss)) (sym (position_from-zero (is_vacant t) (take n ss)))

  -- ---- a slot is written

  none_at : (ss : Slots K) (i : ℕ) → get_or (set ss i None) i None ≡ None
  none_at [] i = refl
  none_at (s ∷ ss) zero = refl
  none_at (s ∷ ss) (suc i) = none_at ss i

  free_vacated : (n i : ℕ) (ss : Slots K) → AreFree n ss → AreFree n (set ss i None)
  free_vacated n i ss free = λ k from. by k from (k == i) refl where
    by : (k : ℕ) → n ≤ k → (b : Bool) → (k == i) ≡ b → get_or (set ss i None) k None ≡ None
    by k from true is = let same : k ≡ i = grind arith in subst (λ j. get_or (set ss i None) j None ≡ None) (sym same) (none_at ss i)
    by k from false is = get_or-set_other ss i k None None (λ same. grind arith) ∙ free k from

  free_vacancy : (n : ℕ) (found : Option ℕ) (ss : Slots K) → AreFree n ss → AreFree n (with_vacancy found ss)
  free_vacancy n None ss free = free
  free_vacancy n (Some i) ss free = free_vacated n i ss free

  free_lessee : (eqk : K → K → Bool) (n : ℕ) (client : Option K) (ss : Slots K) → AreFree n ss → AreFree n (without_lessee eqk client ss)
  free_lessee eqk n None ss free = free
  free_lessee eqk n (Some client) ss free = free_vacancy n (position (is_clients eqk client) ss) ss free

  length_vacancy : (found : Option ℕ) (ss : Slots K) → length (with_vacancy found ss) ≡ length ss
  length_vacancy None ss = refl
  length_vacancy (Some i) ss = length-set ss i None

  length_lessee : (eqk : K → K → Bool) (client : Option K) (ss : Slots K) → length (without_lessee eqk client ss) ≡ length ss
  length_lessee eqk None ss = refl
  length_lessee eqk (Some client) ss = length_vacancy (position (is_clients eqk client) ss) ss

  length_with : (eqk : K → K → Bool) (i : ℕ) (holder : Option (Holder K)) (ss : Slots K) → length (with_slot eqk i holder ss) ≡ length ss
  length_with eqk i holder ss = length-set (without_lessee eqk (client_of holder) ss) i holder ∙ length_lessee eqk (client_of holder) ss

  -- the first slot that nobody held is written
  pub used_more : (eqk : K → K → Bool) (n i : ℕ) (holder : Option (Holder K)) (ss : Slots K) → IsUsed n ss → n ≤ i → i < length ss → IsUsed (i + 1) (with_slot eqk i holder ss)
  used_more eqk n i holder ss used from below =
      record {
        within = omega (arith, below, length_with eqk i holder ss);
        free = λ k past.
            get_or-set_other (without_lessee eqk (client_of holder) ss) i k holder None (λ same. omega (arith, same, past))
            ∙ free_lessee eqk n (client_of holder) ss used.free k (omega (arith, from, past));
      }

  past_set : (ss : Slots K) (i : ℕ) (new : Option (Holder K)) → length ss ≤ i → get_or (set ss i new) i None ≡ None
  past_set ss i new past = get_or_past (set ss i new) i None (omega (arith, past, length-set ss i new))

  -- one that may have been held before, or one that there is not
  pub used_still : (eqk : K → K → Bool) (n i : ℕ) (holder : Option (Holder K)) (ss : Slots K) → IsUsed n ss → (i < n) ⊎ (length ss ≤ i) → IsUsed n (with_slot eqk i holder ss)
  used_still eqk n i holder ss used (inl below) =
      record {
        within = omega (arith, used.within, length_with eqk i holder ss);
        free = λ k past.
            get_or-set_other (without_lessee eqk (client_of holder) ss) i k holder None (λ same. omega (arith, same, past, below))
            ∙ free_lessee eqk n (client_of holder) ss used.free k past;
      }
  used_still eqk n i holder ss used (inr beyond) =
      record {
        within = omega (arith, used.within, length_with eqk i holder ss);
        free = λ k past. by k past (k == i) refl;
      } where
        rest : Slots K
        rest = without_lessee eqk (client_of holder) ss

        by : (k : ℕ) → n ≤ k → (b : Bool) → (k == i) ≡ b → get_or (set rest i holder) k None ≡ None
        by k past true is =
            let same : k ≡ i = grind arith in
            subst (λ j. get_or (set rest i holder) j None ≡ None) (sym same) (past_set rest i holder (omega (arith, beyond, length_lessee eqk (client_of holder) ss)))
        by k past false is =
            get_or-set_other rest i k holder None (λ same. grind arith) ∙ free_lessee eqk n (client_of holder) ss used.free k past

  pub used_written : (eqk : K → K → Bool) (n i : ℕ) (holder : Option (Holder K)) (ss : Slots K) → IsUsed n ss → IsUsed (used_after n i (length ss)) (with_slot eqk i holder ss)
  used_written eqk n i holder ss used = by (nat_le n i) refl (nat_lt i (length ss)) refl where
    by : (b : Bool) → nat_le n i ≡ b → (e : Bool) → nat_lt i (length ss) ≡ e → IsUsed (cond (b && e) (i + 1) n) (with_slot eqk i holder ss)
    by true is true there = used_more eqk n i holder ss used (grind arith) (grind arith)
    by true is false there = used_still eqk n i holder ss used (inr (grind arith))
    by false is e there = used_still eqk n i holder ss used (inl (grind arith))

  -- the same of a list and numbers that are known to be those
  pub used_of_written : (eqk : K → K → Bool) (n i count used : ℕ) (holder : Option (Holder K)) (ss new : Slots K) → IsUsed n ss → new ≡ with_slot eqk i holder ss → count ≡ length new → used ≡ used_after n i count → IsUsed used new
  used_of_written eqk n i count used holder ss new was is size after =
      let same : count ≡ length ss = size ∙ ap (λ (xs : Slots K). length xs) is ∙ length_with eqk i holder ss in
      subst (λ xs. IsUsed used xs) (sym is) (subst (λ m. IsUsed m (with_slot eqk i holder ss)) (sym (after ∙ ap (used_after n i) same)) (used_written eqk n i holder ss was))
  -- ---- how many may be held
