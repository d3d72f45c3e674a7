-- The saves of the parts of a batch, and their places.
use Rattle.std.proofs.Common.{◌≡◌, ◌∙◌, ◌+◌, ◌<◌, ◌≤◌, ℕ, zero, suc, List, [], ◌∷◌, ◌++◌, length, take, refl, ap, subst, arith}
use Rattle.std.specs.Prelude.{Option, Some, None, Result, slice_get}
use Rattle.std.specs.List.{cons_option, filter_map}
use Rattle.std.proofs.lemmas.List.{length-append}
use Rattle.std.proofs.lemmas.Option.{same_Some}
use Rattle.types.specs.declared.discard.Discard.{Discard}
use Rattle.circuit_server.specs.declared.prepared.Prepared.{Prepared}
use Rattle.dispatch.specs.Parts.{place_of, saving_in, savings_of}

option_more : {B : Type 0} (o : Option B) (xs ys : List B) → cons_option o (xs ++ ys) ≡ cons_option o xs ++ ys
option_more None xs ys = refl
option_more (Some x) xs ys = refl

option_few : {B : Type 0} (o : Option B) (xs : List B) (n : ℕ) → length xs ≤ n → length (cons_option o xs) ≤ n + 1
option_few None xs n few = omega (arith, few)
option_few (Some x) xs n few = omega (arith, few)

option_less : {B : Type 0} (o : Option B) (xs ys : List B) → length xs ≤ length ys → length (cons_option o xs) ≤ length (cons_option o ys)
option_less None xs ys less = less
option_less (Some x) xs ys less = omega (arith, less)

-- the first of a list, and the next one
take_next : {A : Type 0} (xs : List A) (i : ℕ) (x : A) → slice_get xs i ≡ Some x → take (suc i) xs ≡ take i xs ++ x ∷ []
take_next [] i x is = absurd cc
take_next (y ∷ xs) zero x is = ap (λ z. z ∷ []) (same_Some y x is)
take_next (y ∷ xs) (suc i) x is = ap (λ zs. y ∷ zs) (take_next xs i x is)

pub take_more : {A : Type 0} (xs : List A) (i : ℕ) (x : A) → slice_get xs i ≡ Some x → take (i + 1) xs ≡ take i xs ++ x ∷ []
take_more xs i x is = let more : suc i ≡ i + 1 = omega arith in subst (λ n. take n xs ≡ take i xs ++ x ∷ []) more (take_next xs i x is)

module _ {A B : Type 0} (f : A → Option B) where
  -- one element more
  pub filter_more : (xs : List A) (x : A) → filter_map f (xs ++ x ∷ []) ≡ filter_map f xs ++ cons_option (f x) []
  filter_more [] x = refl
  filter_more (y ∷ ys) x = ap (cons_option (f y)) (filter_more ys x) ∙ option_more (f y) (filter_map f ys) (cons_option (f x) [])

  -- the first of a list give no more
  pub taken_few : (xs : List A) (n : ℕ) → length (filter_map f (take n xs)) ≤ length (filter_map f xs)
  taken_few xs zero = omega arith
  taken_few [] (suc n) = omega arith
  taken_few (x ∷ xs) (suc n) = option_less (f x) (filter_map f (take n xs)) (filter_map f xs) (taken_few xs n)

  pub filter_few : (xs : List A) → length (filter_map f xs) ≤ length xs
  filter_few [] = omega arith
  filter_few (x ∷ xs) = let few = option_few (f x) (filter_map f xs) (length xs) (filter_few xs) in omega (arith, few)

-- What a list gives at a place: the element that gives it.
pub record Gives {A B : Type 0} (f : A → Option B) (xs : List A) (n : ℕ) : Type 0 where
  pub index : ℕ
  pub x : A
  pub y : B
  pub there : slice_get xs index ≡ Some x
  pub gives : f x ≡ Some y
  pub place : length (filter_map f (take index xs)) ≡ n

placed_one : {B : Type 0} (o : Option B) (rest part : List B) (y : B) → slice_get rest (length part) ≡ Some y → slice_get (cons_option o rest) (length (cons_option o part)) ≡ Some y
placed_one None rest part y there = there
placed_one (Some b) rest part y there = there

module _ {A B : Type 0} (f : A → Option B) where
  gives_by : (x : A) (xs : List A) → ((n : ℕ) → n < length (filter_map f xs) → Gives f xs n) → (o : Option B) → f x ≡ o → (n : ℕ) → n < length (cons_option o (filter_map f xs)) → Gives f (x ∷ xs) n
  gives_by x xs later None e n less =
      let r = later n less in
      record { index = suc r.index; x = r.x; y = r.y; there = r.there; gives = r.gives; place = ap (λ o. length (cons_option o (filter_map f (take r.index xs)))) e ∙ r.place }
  gives_by x xs later (Some b) e zero less = record { index = 0; x = x; y = b; there = refl; gives = e; place = refl }
  gives_by x xs later (Some b) e (suc m) less =
      let r = later m (omega (arith, less)) in
      record { index = suc r.index; x = r.x; y = r.y; there = r.there; gives = r.gives; place = ap (λ o. length (cons_option o (filter_map f (take r.index xs)))) e ∙ ap suc r.place }

  pub gives_at : (xs : List A) (n : ℕ) → n < length (filter_map f xs) → Gives f xs n
  gives_at [] n less = absurd (omega (arith, less))
  gives_at (x ∷ xs) n less = gives_by x xs (gives_at xs) (f x) refl n less

  -- and at the place of an element is what it gives
  pub placed : (xs : List A) (j : ℕ) (x : A) (y : B) → slice_get xs j ≡ Some x → f x ≡ Some y → slice_get (filter_map f xs) (length (filter_map f (take j xs))) ≡ Some y
  placed [] j x y there gives = absurd cc
  placed (z ∷ xs) zero x y there gives = ap (λ o. slice_get (cons_option o (filter_map f xs)) 0) (ap f (same_Some z x there) ∙ gives)
  placed (z ∷ xs) (suc j) x y there gives = placed_one (f z) (filter_map f xs) (filter_map f (take j xs)) y (placed xs j x y there gives)

-- the place of the next part's save
pub place_more : (parts : List (Option (Result (ℕ × Prepared) Discard))) (i : ℕ) (x : Option (Result (ℕ × Prepared) Discard)) → slice_get parts i ≡ Some x → place_of parts (i + 1) ≡ place_of parts i + length (cons_option (saving_in x) [])
place_more parts i x here =
    ap (λ (xs : List (Option (Result (ℕ × Prepared) Discard))). length (savings_of xs)) (take_more parts i x here)
    ∙ ap length (filter_more saving_in (take i parts) x) ∙ length-append (savings_of (take i parts)) (cons_option (saving_in x) [])

-- and it is one of all
pub place_within : (parts : List (Option (Result (ℕ × Prepared) Discard))) (i : ℕ) (x : Option (Result (ℕ × Prepared) Discard)) → slice_get parts i ≡ Some x → place_of parts i + length (cons_option (saving_in x) []) ≤ length (savings_of parts)
place_within parts i x here = let more = place_more parts i x here in let few = taken_few saving_in parts (i + 1) in omega (arith, more, few)
