-- Regions that are formatted one after the other.
use Rattle.std.proofs.Common.{◌≡◌, ◌≢◌, ◌<◌, ◌≤◌, ◌+◌, ℕ, ◌⊎◌, inl, inr, List, sym, ap, subst, ◌∙◌, arith}
use Rattle.std.specs.Prelude.{Some, slice_get}
use Rattle.std.proofs.lemmas.Bool.{cases_lt}
use Rattle.std.proofs.lemmas.Option.{same_Some}
use Rattle.settings.specs.declared.settings.CircuitConfig.{CircuitConfig}
use Rattle.lease_disk.specs.Crash.{IsFormatted}
use Rattle.lease_disk.specs.Region.{Region}

same_or_apart : (p q : ℕ) → (p < q) ⊎ (q ≤ p) → (q < p) ⊎ (p ≤ q) → (p ≡ q) ⊎ (p ≢ q)
same_or_apart p q (inl less) other = inr (λ same. absurd (omega (arith, less, same)))
same_or_apart p q (inr most) (inl less) = inr (λ same. absurd (omega (arith, less, same)))
same_or_apart p q (inr most) (inr least) = inl (omega (arith, most, least))

-- A region was formatted, and each other one is as it was.
module _ (before after : ℕ → Region) (region : ℕ) (done : IsFormatted (after region)) (others : (q : ℕ) → q ≢ region → after q ≡ before q) where
  kept : (q : ℕ) → (q ≡ region) ⊎ (q ≢ region) → IsFormatted (before q) → IsFormatted (after q)
  kept q (inl same) h = subst (λ r. IsFormatted (after r)) (sym same) done
  kept q (inr apart) h = subst IsFormatted (sym (others q apart)) h

  module _ (circuits : List CircuitConfig) (index : ℕ) (here : CircuitConfig) (is : slice_get circuits index ≡ Some here) (its : here.region ≡ region)
      (each : (c : ℕ) (circuit : CircuitConfig) → c < index → slice_get circuits c ≡ Some circuit → IsFormatted (before circuit.region)) where
    one : (c : ℕ) (circuit : CircuitConfig) → c < index + 1 → slice_get circuits c ≡ Some circuit → (c < index) ⊎ (index ≤ c) → IsFormatted (after circuit.region)
    one c circuit less there (inl earlier) =
        kept circuit.region (same_or_apart circuit.region region (cases_lt circuit.region region) (cases_lt region circuit.region)) (each c circuit earlier there)
    one c circuit less there (inr behind) =
        let same : c ≡ index = omega (arith, less, behind) in
        let circuit_is : here ≡ circuit = same_Some here circuit (sym is ∙ ap (slice_get circuits) (sym same) ∙ there) in
        subst (λ r. IsFormatted (after r)) (sym its ∙ ap (λ (x : CircuitConfig). x.region) circuit_is) done

    pub one_more : (c : ℕ) (circuit : CircuitConfig) → c < index + 1 → slice_get circuits c ≡ Some circuit → IsFormatted (after circuit.region)
    one_more c circuit less there = one c circuit less there (cases_lt c index)
