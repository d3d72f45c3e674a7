-- A ring of q items: the window of n items from position h on, around the end.
use Rattle.std.proofs.Common.{◌≡◌, ◌≢◌, ℕ, zero, suc, ◌+◌, ◌-◌, ◌%◌, ◌<◌, ◌≤◌, ◌⊎◌, List, ◌∷◌, length, get_or, take, set, min, ap, sym, ◌∙◌, inl, inr, mod-eq_of_lt, arith, length-append, length-drop, length-take, length-set, length-take-le, get_or-drop, get_or-take, get_or-set_same, get_or-set_other}
use Rattle.std.proofs.lemmas.List.{same_lists, get_or_append_left, get_or-append_right}
use Rattle.std.proofs.lemmas.Bool.{cases_lt}
use Rattle.std.proofs.lemmas.Bool.Decides.{nat_tests}
use native.Mathlib.Nat.{mod-eq-sub-mod}
use Rattle.lossy_net.specs.Ring.{before, window}

-- an index below 2 q wraps once at most
mod_wraps_once : (q j : ℕ) → j < q + q → ((j < q) × (j % q ≡ j)) ⊎ ((q ≤ j) × (j % q ≡ j - q))
mod_wraps_once q j below = elim (cases_lt j q) [
  | inl low ↦ inl (low, mod-eq_of_lt low)
  | inr high ↦ inr (high, mod-eq-sub-mod high ∙ mod-eq_of_lt (omega arith))
]

pub position_below : (q h i : ℕ) → h < q → i < q → (h + i) % q < q
position_below q h i start low = elim (mod_wraps_once q (h + i) (omega arith)) [
  | inl w ↦ omega arith
  | inr w ↦ omega arith
]

pub before_below : (q h : ℕ) → h < q → before q h < q
before_below q h start = grind (arith, nat_tests)

-- the position before h is the new front
new_front : (q h : ℕ) → h < q → (before q h + 0) % q ≡ before q h
new_front q h start = let below = before_below q h start in mod-eq_of_lt (omega arith) ∙ omega arith

-- and each other position is one further from it than from h
one_further : (q h k : ℕ) → h < q → k + 1 < q → ((before q h + (k + 1)) % q ≡ (h + k) % q) × ((h + k) % q ≢ before q h)
one_further q h k start low =
    let here = mod_wraps_once q (h + k) (omega arith) in
    let there = mod_wraps_once q (before q h + (k + 1)) (let below = before_below q h start in omega arith) in
    grind (arith, nat_tests)

module _ {X : Type 0} (q h n : ℕ) (xs : List X) (start : h < q) (fits : n ≤ q) (whole : length xs ≡ q) where
  pub length-window : length (window h n xs) ≡ n
  length-window = length-take-le n _ (simp (length-append, length-drop) (omega (arith, length-take-le h xs (omega arith))))

  -- item i of the window is at position (h + i) % q, which is before the end or past it
  pub get_or-window : (i : ℕ) (d : X) → i < n → get_or (window h n xs) i d ≡ get_or xs ((h + i) % q) d
  get_or-window i d low =
      let length_tail = length-drop h xs in
      get_or-take n _ i d low ∙ elim (mod_wraps_once q (h + i) (omega arith)) [
        | inl unwrapped ↦ get_or_append_left _ _ d i (omega arith) ∙ get_or-drop h xs i d ∙ ap (λ j. get_or xs j d) (omega arith)
        | inr wrapped ↦ get_or-append_right _ _ (q - h) i d (omega arith) (omega arith) ∙ get_or-take h xs _ d (omega arith) ∙ ap (λ j. get_or xs j d) (omega arith)
      ]

module _ {X : Type 0} (q h n : ℕ) (xs : List X) (start : h < q) (fits : n ≤ q) (whole : length xs ≡ q) (x : X) where
  -- after a write before the first item, that item comes first, and the last of q is lost
  same_item : (i : ℕ) (d : X) → i < min q (n + 1) → get_or (set xs (before q h) x) ((before q h + i) % q) d ≡ get_or (take q (x ∷ window h n xs)) i d
  same_item zero d low =
      let below : before q h < length xs = omega (arith, before_below q h start) in
      ap (λ j. get_or (set xs (before q h) x) j d) (new_front q h start)
      ∙ get_or-set_same xs (before q h) x d below
      ∙ sym (get_or-take q (x ∷ window h n xs) 0 d (omega arith))
  same_item (suc k) d low =
      let further = one_further q h k start (omega arith) in
      let e : before q h + suc k ≡ before q h + (k + 1) = omega arith in
      ap (λ j. get_or (set xs (before q h) x) (j % q) d) e
      ∙ ap (λ j. get_or (set xs (before q h) x) j d) further.0
      ∙ get_or-set_other xs (before q h) ((h + k) % q) x d further.1
      ∙ sym (get_or-window q h n xs start fits whole k d (omega arith))
      ∙ sym (get_or-take q (x ∷ window h n xs) (suc k) d (omega arith))

  pub window_of_next : window (before q h) (min q (n + 1)) (set xs (before q h) x) ≡ take q (x ∷ window h n xs)
  window_of_next =
      let ys = set xs (before q h) x in
      let length_ys = length-set xs (before q h) x ∙ whole in
      let below = before_below q h start in
      let length_old = length-window q h n xs start fits whole in
      let length_new = length-window q (before q h) (min q (n + 1)) ys below (omega arith) length_ys in
      let length_take = length-take q (x ∷ window h n xs) in
      same_lists _ _ (omega arith) (λ i d low.
      let low' : i < min q (n + 1) = omega arith in
      get_or-window q (before q h) (min q (n + 1)) ys below (omega arith) length_ys i d low' ∙ same_item i d low')
