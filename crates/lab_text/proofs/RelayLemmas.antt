-- The first relay with a name, and whether one has a source, found by a walk.
use Rattle.std.proofs.Common.{◌≡◌, ℕ, zero, suc, ◌+◌, ◌≤◌, Bool, true, false, cond, List, [], ◌∷◌, length, drop, drop-cons, refl, ap, sym, ◌∙◌, arith}
use Rattle.std.specs.Prelude.{◌||◌, Some, map, position, slice_get}
use Rattle.std.specs.List.{list_any, position_from}
use Rattle.std.proofs.lemmas.Iterator.Adapters.{position_from-zero}
use Rattle.std.proofs.lemmas.Option.{same_Some, slice_get_within, slice_get-get_or}

module _ {A : Type 0} (p : A → Bool) (xs : List A) where
  -- what there is from i on begins with the element at i
  from_here : (i : ℕ) (x : A) → slice_get xs i ≡ Some x → drop i xs ≡ x ∷ drop (suc i) xs
  from_here i x there =
      let within = slice_get_within xs i x there in
      drop-cons xs i x within ∙ ap (λ y. y ∷ drop (suc i) xs) (same_Some _ _ (sym (slice_get-get_or xs i x within) ∙ there))

  -- none of the first i passes
  abbrev pub LacksBefore : ℕ → Type 0
  LacksBefore i = position p xs ≡ position_from p i (drop i xs)

  abbrev pub NoneBefore : ℕ → Type 0
  NoneBefore i = list_any p xs ≡ list_any p (drop i xs)

  pub lacks_none : LacksBefore 0
  lacks_none = position_from-zero p xs

  at_one : (i : ℕ) (x : A) (t : Bool) → slice_get xs i ≡ Some x → p x ≡ t → LacksBefore i → position p xs ≡ cond t (Some i) (position_from p (i + 1) (drop (suc i) xs))
  at_one i x t there is so_far =
      so_far ∙ ap (position_from p i) (from_here i x there) ∙ ap (λ b. cond b (Some i) (position_from p (i + 1) (drop (suc i) xs))) is

  pub lacks_one_more : (i : ℕ) (x : A) → slice_get xs i ≡ Some x → p x ≡ false → LacksBefore i → LacksBefore (i + 1)
  lacks_one_more i x there is so_far =
      let e : suc i ≡ i + 1 = omega arith in
      at_one i x false there is so_far ∙ ap (λ n. position_from p (i + 1) (drop n xs)) e

  pub found_here : (i : ℕ) (x : A) → slice_get xs i ≡ Some x → p x ≡ true → LacksBefore i → position p xs ≡ Some i
  found_here i x there is so_far = at_one i x true there is so_far

  any_one : (i : ℕ) (x : A) (t : Bool) → slice_get xs i ≡ Some x → p x ≡ t → NoneBefore i → list_any p xs ≡ (t || list_any p (drop (suc i) xs))
  any_one i x t there is so_far = so_far ∙ ap (list_any p) (from_here i x there) ∙ ap (λ b. b || list_any p (drop (suc i) xs)) is

  pub none_one_more : (i : ℕ) (x : A) → slice_get xs i ≡ Some x → p x ≡ false → NoneBefore i → NoneBefore (i + 1)
  none_one_more i x there is so_far =
      let e : suc i ≡ i + 1 = omega arith in
      any_one i x false there is so_far ∙ ap (λ n. list_any p (drop n xs)) e

  pub one_here : (i : ℕ) (x : A) → slice_get xs i ≡ Some x → p x ≡ true → NoneBefore i → list_any p xs ≡ true
  one_here i x there is so_far = any_one i x true there is so_far

drop_past : {A : Type 0} (xs : List A) (i : ℕ) → length xs ≤ i → drop i xs ≡ []
drop_past [] zero h = refl
drop_past [] (suc i) h = refl
drop_past (x ∷ xs) zero h = absurd (omega (arith, h))
drop_past (x ∷ xs) (suc i) h = drop_past xs i (omega (arith, h))

pub none_of_all : {A : Type 0} (p : A → Bool) (xs : List A) (i : ℕ) → length xs ≤ i → NoneBefore p xs i → list_any p xs ≡ false
none_of_all p xs i past so_far = so_far ∙ ap (list_any p) (drop_past xs i past)

pub any_of_map : {A B : Type 0} (p : B → Bool) (f : A → B) (xs : List A) → list_any p (map f xs) ≡ list_any (λ x. p (f x)) xs
any_of_map p f [] = refl
any_of_map p f (x ∷ xs) = ap (λ t. p (f x) || t) (any_of_map p f xs)
