-- What is done for each region that a list names, once.
use Rattle.std.proofs.Common.{◌≡◌, ◌≢◌, ℕ, zero, suc, ◌+◌, ◌<◌, ◌≤◌, ◌==◌, ◌||◌, Bool, true, false, List, [], ◌∷◌, length, set, take, slice_index, slice_index_or, if◌then◌else◌, refl, sym, ap, subst, ◌∙◌, arith}
use Rattle.std.specs.List.{list_any}
use Rattle.std.proofs.lemmas.Bool.{eq-eqb}
use Rattle.std.proofs.lemmas.Grind.{get_or-set_at}
use Rattle.std.proofs.lemmas.List.{get_or-set_other, take_all}
use Rattle.lease_disk.specs.Device.{is_in}

or_false : (x : Bool) → (x || false) ≡ x
or_false true = refl
or_false false = refl

or_true : (x : Bool) → (x || true) ≡ true
or_true true = refl
or_true false = refl

or_again : (x y z : Bool) → (x || (y || z)) ≡ ((x || y) || z)
or_again true y z = refl
or_again false y z = refl

-- one place more of the list
in_next : (xs : List ℕ) (i q : ℕ) → i < length xs → is_in (take (suc i) xs) q ≡ (is_in (take i xs) q || (slice_index_or xs i 0 == q))
in_next [] i q within = absurd (omega (arith, within))
in_next (x ∷ xs) zero q within = or_false (x == q)
in_next (x ∷ xs) (suc i) q within = ap (λ b. (x == q) || b) (in_next xs i q (omega (arith, within))) ∙ or_again (x == q) (is_in (take i xs) q) (slice_index_or xs i 0 == q)

pub in_more : (xs : List ℕ) (i q : ℕ) → i < length xs → is_in (take (i + 1) xs) q ≡ (is_in (take i xs) q || (slice_index_or xs i 0 == q))
in_more xs i q within = let more : suc i ≡ i + 1 = omega arith in subst (λ n. is_in (take n xs) q ≡ (is_in (take i xs) q || (slice_index_or xs i 0 == q))) more (in_next xs i q within)

pub in_all : (xs : List ℕ) (n q : ℕ) → length xs ≤ n → is_in (take n xs) q ≡ is_in xs q
in_all xs n q all = ap (λ l. is_in l q) (take_all n xs all)

-- each number of a region that is listed was changed once
abbrev pub AreChanged : {A : Type 0} → (A → A) → List ℕ → (ℕ → A) → (ℕ → A) → Type 0
AreChanged change regions old new = (q : ℕ) → new q ≡ (if is_in regions q then change (old q) else old q)

module _ {A : Type 0} (change : A → A) (xs : List ℕ) (i : ℕ) (within : i < length xs) (old now : ℕ → A) (done : AreChanged change (take i xs) old now) where
  abbrev here : ℕ
  here = slice_index_or xs i 0

  -- it is listed already
  pub changed_before : is_in (take i xs) here ≡ true → AreChanged change (take (i + 1) xs) old now
  changed_before again q = done q ∙ ap (λ b. if b then change (old q) else old q) (by (here == q) refl ∙ sym (in_more xs i q within)) where
    by : (b : Bool) → (here == q) ≡ b → is_in (take i xs) q ≡ (is_in (take i xs) q || (here == q))
    by false other = sym (ap (λ b. is_in (take i xs) q || b) other ∙ or_false (is_in (take i xs) q))
    by true same =
        let is : here ≡ q = grind (arith, same) in
        ap (is_in (take i xs)) (sym is) ∙ again ∙ sym (ap (λ b. is_in (take i xs) q || b) same ∙ or_true (is_in (take i xs) q))

  -- it was not
  pub changed_now : is_in (take i xs) here ≡ false → (new : ℕ → A) → ((q : ℕ) → new q ≡ (if here == q then change (now q) else now q)) → AreChanged change (take (i + 1) xs) old new
  changed_now first new puts q = puts q ∙ by (here == q) refl where
    by : (b : Bool) → (here == q) ≡ b → (if here == q then change (now q) else now q) ≡ (if is_in (take (i + 1) xs) q then change (old q) else old q)
    by false other =
        ap (λ b. if b then change (now q) else now q) other ∙ done q
        ∙ ap (λ b. if b then change (old q) else old q) (sym (in_more xs i q within ∙ ap (λ b. is_in (take i xs) q || b) other ∙ or_false (is_in (take i xs) q)))
    by true same =
        let is : here ≡ q = grind (arith, same) in
        let was : now q ≡ old q = done q ∙ ap (λ b. if b then change (old q) else old q) (ap (is_in (take i xs)) (sym is) ∙ first) in
        ap (λ b. if b then change (now q) else now q) same ∙ ap change was
        ∙ ap (λ b. if b then change (old q) else old q) (sym (in_more xs i q within ∙ ap (λ b. is_in (take i xs) q || b) same ∙ or_true (is_in (take i xs) q)))

  -- what may be done again
  pub changed_again : ((x : A) → change (change x) ≡ change x) → (new : ℕ → A) → ((q : ℕ) → new q ≡ (if here == q then change (now q) else now q)) → AreChanged change (take (i + 1) xs) old new
  changed_again twice new puts q = puts q ∙ by (here == q) refl where
    again : (b : Bool) → change (if b then change (old q) else old q) ≡ change (old q)
    again true = twice (old q)
    again false = refl

    by : (b : Bool) → (here == q) ≡ b → (if here == q then change (now q) else now q) ≡ (if is_in (take (i + 1) xs) q then change (old q) else old q)
    by false other =
        ap (λ b. if b then change (now q) else now q) other ∙ done q
        ∙ ap (λ b. if b then change (old q) else old q) (sym (in_more xs i q within ∙ ap (λ b. is_in (take i xs) q || b) other ∙ or_false (is_in (take i xs) q)))
    by true same =
        ap (λ b. if b then change (now q) else now q) same ∙ ap change (done q) ∙ again (is_in (take i xs) q)
        ∙ ap (λ b. if b then change (old q) else old q) (sym (in_more xs i q within ∙ ap (λ b. is_in (take i xs) q || b) same ∙ or_true (is_in (take i xs) q)))

-- none, and all
pub changed_none : {A : Type 0} (change : A → A) (xs : List ℕ) (old : ℕ → A) → AreChanged change (take 0 xs) old old
changed_none change xs old q = refl

pub changed_all : {A : Type 0} (change : A → A) (xs : List ℕ) (n : ℕ) (old new : ℕ → A) → length xs ≤ n → AreChanged change (take n xs) old new → AreChanged change xs old new
changed_all change xs n old new all done q = done q ∙ ap (λ b. if b then change (old q) else old q) (in_all xs n q all)

-- the two ways to compare
pub either_way : (a b : ℕ) → (a == b) ≡ (b == a)
either_way a b = by (a == b) (b == a) refl refl where
  by : (x y : Bool) → (a == b) ≡ x → (b == a) ≡ y → (a == b) ≡ (b == a)
  by true true one other = one ∙ sym other
  by false false one other = one ∙ sym other
  by true false one other = grind (arith, one, other)
  by false true one other = grind (arith, one, other)

-- ---- whether one of the regions that are listed has something

in_there : (xs : List ℕ) (i : ℕ) → i < length xs → is_in xs (slice_index_or xs i 0) ≡ true
in_there [] i within = absurd (omega (arith, within))
in_there (x ∷ xs) zero within = ap (λ b. b || is_in xs x) (eq-eqb x x refl)
in_there (x ∷ xs) (suc i) within = ap (λ b. (x == slice_index_or xs i 0) || b) (in_there xs i (omega (arith, within))) ∙ or_true (x == slice_index_or xs i 0)

pub is_there : (xs : List ℕ) (i : ℕ) → i < length xs → is_in xs (slice_index_or xs i 0) ≡ true
is_there = in_there

module _ (p : ℕ → Bool) where
  any_next : (xs : List ℕ) (i : ℕ) → i < length xs → list_any p (take (suc i) xs) ≡ (list_any p (take i xs) || p (slice_index_or xs i 0))
  any_next [] i within = absurd (omega (arith, within))
  any_next (x ∷ xs) zero within = or_false (p x)
  any_next (x ∷ xs) (suc i) within = ap (λ b. p x || b) (any_next xs i (omega (arith, within))) ∙ or_again (p x) (list_any p (take i xs)) (p (slice_index_or xs i 0))

  pub any_more : (xs : List ℕ) (i : ℕ) → i < length xs → list_any p (take (i + 1) xs) ≡ (list_any p (take i xs) || p (slice_index_or xs i 0))
  any_more xs i within = let more : suc i ≡ i + 1 = omega arith in subst (λ n. list_any p (take n xs) ≡ (list_any p (take i xs) || p (slice_index_or xs i 0))) more (any_next xs i within)

  any_of : (ys : List ℕ) (x : ℕ) → is_in ys x ≡ true → p x ≡ true → list_any p ys ≡ true
  any_of [] x there holds = absurd cc
  any_of (y ∷ ys) x there holds = by (y == x) refl (λ rest. any_of ys x rest holds) where
    by : (b : Bool) → (y == x) ≡ b → (is_in ys x ≡ true → list_any p ys ≡ true) → list_any p (y ∷ ys) ≡ true
    by true same rest = let is : y ≡ x = grind (arith, same) in ap (λ b. b || list_any p ys) (ap p is ∙ holds)
    by false other rest =
        let further : is_in ys x ≡ true = sym (ap (λ b. b || is_in ys x) other) ∙ there in
        ap (λ b. p y || b) (rest further) ∙ or_true (p y)

  -- one that is listed already changes nothing
  pub any_same : (ys : List ℕ) (x : ℕ) → is_in ys x ≡ true → (list_any p ys || p x) ≡ list_any p ys
  any_same ys x there = by (p x) refl where
    by : (b : Bool) → p x ≡ b → (list_any p ys || p x) ≡ list_any p ys
    by true holds = ap (λ b. list_any p ys || b) holds ∙ or_true (list_any p ys) ∙ sym (any_of ys x there holds)
    by false fails = ap (λ b. list_any p ys || b) fails ∙ or_false (list_any p ys)

pub or_swap : (x y : Bool) → (x || y) ≡ (y || x)
or_swap true true = refl
or_swap true false = refl
or_swap false true = refl
or_swap false false = refl

-- ---- one of the numbers changes

pub set_change : (change : ℕ → ℕ) (xs : List ℕ) (r q : ℕ) → r < length xs → slice_index (set xs r (change (slice_index xs r))) q ≡ (if r == q then change (slice_index xs q) else slice_index xs q)
set_change change xs r q within = by (r == q) refl where
  by : (b : Bool) → (r == q) ≡ b → slice_index (set xs r (change (slice_index xs r))) q ≡ (if r == q then change (slice_index xs q) else slice_index xs q)
  by true e =
      let same : q ≡ r = grind (arith, e) in
      get_or-set_at xs r q (change (slice_index xs r)) 0 same within ∙ ap (λ n. change (slice_index xs n)) (sym same) ∙ sym (ap (λ b. if b then change (slice_index xs q) else slice_index xs q) e)
  by false e =
      let other : q ≢ r = λ same. absurd (grind (arith, e, same)) in
      get_or-set_other xs r q (change (slice_index xs r)) 0 other ∙ sym (ap (λ b. if b then change (slice_index xs q) else slice_index xs q) e)
