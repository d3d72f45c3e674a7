-- Whether one of the parts has a number, and how many pass a test, part by part.
use Rattle.std.proofs.Common.{◌≡◌, ◌≢◌, ℕ, ◌+◌, ◌<◌, ◌==◌, ◌||◌, if◌then◌else◌, Bool, true, false, List, [], ◌∷◌, count_by, fold, length, map, suc, zero, eq-eqb, refl, ap, ap₂, ◌∙◌, arith}
use Rattle.std.specs.List.{list_any}
use Rattle.lease_disk.specs.declared.saving.Saving.{Saving}
use Rattle.batch_saves.specs.Batch.{failed_of, part_at}

or_true : (b : Bool) → (b || true) ≡ true
or_true true = refl
or_true false = refl

module _ (g : Saving → ℕ) (n : ℕ) where
  pub any_part : (parts : List Saving) (i : ℕ) → i < length parts → g (part_at parts i) ≡ n → list_any (λ f. f == n) (map g parts) ≡ true
  any_part [] i within is = absurd (omega (arith, within))
  any_part (p ∷ ps) zero within is = ap (λ b. b || list_any (λ f. f == n) (map g ps)) (eq-eqb (g p) n is)
  any_part (p ∷ ps) (suc i) within is = ap (λ b. (g p == n) || b) (any_part ps i (omega (arith, within)) is) ∙ or_true (g p == n)

  pub none_of : (parts : List Saving) → ((i : ℕ) → i < length parts → g (part_at parts i) ≢ n) → list_any (λ f. f == n) (map g parts) ≡ false
  none_of [] none = refl
  none_of (p ∷ ps) none =
      ap (λ b. b || list_any (λ f. f == n) (map g ps)) (by (g p == n) refl) ∙ none_of ps (λ i within. none (suc i) (omega (arith, within))) where
        by : (b : Bool) → (g p == n) ≡ b → (g p == n) ≡ false
        by true e = absurd (none 0 (omega arith) (grind (arith, e)))
        by false e = e

pub none_passes : (p : Saving → Bool) (parts : List Saving) → ((i : ℕ) → i < length parts → p (part_at parts i) ≡ false) → list_any p parts ≡ false
none_passes p [] none = refl
none_passes p (x ∷ xs) none = ap₂ (λ a b. a || b) (none 0 (omega arith)) (none_passes p xs (λ i within. none (suc i) (omega (arith, within))))

-- a test of the parts, and one of what failed of them later
module _ (p : Saving → Bool) (q : ℕ → Bool) where
  count_from : (a : ℕ) (was now : List Saving) → length now ≡ length was → ((i : ℕ) → i < length was → p (part_at was i) ≡ q (part_at now i).failed)
      → fold (λ n x. n + (if p x then 1 else 0)) a was ≡ fold (λ n k. n + (if q k then 1 else 0)) a (failed_of now)
  count_from a [] [] size same = refl
  count_from a [] (y ∷ ys) size same = absurd (omega (arith, size))
  count_from a (x ∷ xs) [] size same = absurd (omega (arith, size))
  count_from a (x ∷ xs) (y ∷ ys) size same =
      ap (λ b. fold (λ n x. n + (if p x then 1 else 0)) (a + (if b then 1 else 0)) xs) (same 0 (omega arith))
      ∙ count_from (a + (if q y.failed then 1 else 0)) xs ys (omega (arith, size)) (λ i within. same (suc i) (omega (arith, within)))

  pub count_later : (was now : List Saving) → length now ≡ length was → ((i : ℕ) → i < length was → p (part_at was i) ≡ q (part_at now i).failed) → count_by p was ≡ count_by q (failed_of now)
  count_later = count_from 0

  pub any_later : (was now : List Saving) → length now ≡ length was → ((i : ℕ) → i < length was → p (part_at was i) ≡ q (part_at now i).failed) → list_any p was ≡ list_any q (failed_of now)
  any_later [] [] size same = refl
  any_later [] (y ∷ ys) size same = absurd (omega (arith, size))
  any_later (x ∷ xs) [] size same = absurd (omega (arith, size))
  any_later (x ∷ xs) (y ∷ ys) size same = ap₂ (λ a b. a || b) (same 0 (omega arith)) (any_later xs ys (omega (arith, size)) (λ i within. same (suc i) (omega (arith, within))))

-- two tests of what failed of the parts, then and later
module _ (p q : ℕ → Bool) where
  count_on_from : (a : ℕ) (was now : List Saving) → length now ≡ length was → ((i : ℕ) → i < length was → p (part_at was i).failed ≡ q (part_at now i).failed)
      → fold (λ n k. n + (if p k then 1 else 0)) a (failed_of was) ≡ fold (λ n k. n + (if q k then 1 else 0)) a (failed_of now)
  count_on_from a [] [] size same = refl
  count_on_from a [] (y ∷ ys) size same = absurd (omega (arith, size))
  count_on_from a (x ∷ xs) [] size same = absurd (omega (arith, size))
  count_on_from a (x ∷ xs) (y ∷ ys) size same =
      ap (λ b. fold (λ n k. n + (if p k then 1 else 0)) (a + (if b then 1 else 0)) (failed_of xs)) (same 0 (omega arith))
      ∙ count_on_from (a + (if q y.failed then 1 else 0)) xs ys (omega (arith, size)) (λ i within. same (suc i) (omega (arith, within)))

  pub count_on : (was now : List Saving) → length now ≡ length was → ((i : ℕ) → i < length was → p (part_at was i).failed ≡ q (part_at now i).failed) → count_by p (failed_of was) ≡ count_by q (failed_of now)
  count_on = count_on_from 0

  pub any_on : (was now : List Saving) → length now ≡ length was → ((i : ℕ) → i < length was → p (part_at was i).failed ≡ q (part_at now i).failed) → list_any p (failed_of was) ≡ list_any q (failed_of now)
  any_on [] [] size same = refl
  any_on [] (y ∷ ys) size same = absurd (omega (arith, size))
  any_on (x ∷ xs) [] size same = absurd (omega (arith, size))
  any_on (x ∷ xs) (y ∷ ys) size same = ap₂ (λ a b. a || b) (same 0 (omega arith)) (any_on xs ys (omega (arith, size)) (λ i within. same (suc i) (omega (arith, within))))
