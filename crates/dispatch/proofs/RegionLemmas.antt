-- The regions of the first circuits.
use Rattle.std.proofs.Common.{◌≡◌, ℕ, ◌+◌, ◌<◌, ◌≤◌, ◌⊎◌, inl, inr, List, refl, ap, sym, subst, ◌∙◌, arith}
use Rattle.std.specs.Prelude.{Some, slice_get}
use Rattle.std.proofs.lemmas.Bool.{cases_lt}
use Rattle.std.proofs.lemmas.Option.{same_Some}
use Rattle.settings.specs.declared.settings.CircuitConfig.{CircuitConfig}

-- one more than the greatest of them, or 0 where there is none
pub record Regions (circuits : List CircuitConfig) (index regions : ℕ) : Type 0 where
  pub none : index ≡ 0 → regions ≡ 0
  pub each : (c : ℕ) (circuit : CircuitConfig) → c < index → slice_get circuits c ≡ Some circuit → circuit.region < regions
  pub one : 0 < index → ((c : ℕ) × (circuit : CircuitConfig) × (slice_get circuits c ≡ Some circuit) × (circuit.region + 1 ≡ regions))
  pub most : regions ≤ 1024

each_at : (circuits : List CircuitConfig) (index regions : ℕ) (here : CircuitConfig) (c : ℕ) (circuit : CircuitConfig) → slice_get circuits index ≡ Some here → here.region < regions
    → ((d : ℕ) (other : CircuitConfig) → d < index → slice_get circuits d ≡ Some other → other.region < regions)
    → c < index + 1 → slice_get circuits c ≡ Some circuit → (c < index) ⊎ (index ≤ c) → circuit.region < regions
each_at circuits index regions here c circuit is within each less there (inl before) = each c circuit before there
each_at circuits index regions here c circuit is within each less there (inr behind) =
    let same : c ≡ index = omega arith in
    let circuit_is : circuit ≡ here = same_Some _ _ (sym there ∙ ap (slice_get circuits) same ∙ is) in
    subst (λ (x : CircuitConfig). x.region < regions) (sym circuit_is) within

-- a circuit with a greater region
pub region_raised : (circuits : List CircuitConfig) (index regions : ℕ) (here : CircuitConfig) → slice_get circuits index ≡ Some here → regions < here.region + 1 → here.region + 1 ≤ 1024
    → Regions circuits index regions → Regions circuits (index + 1) (here.region + 1)
region_raised circuits index regions here is greater most h = record {
  none = λ e. absurd (omega arith);
  each = λ c circuit less there.
      let within : here.region < here.region + 1 = omega arith in
      each_at circuits index (here.region + 1) here c circuit is within
      (λ d other before e. let earlier = h.each d other before e in omega arith) less there (cases_lt c index);
  one = λ some. (index, here, is, refl);
  most = most;
}

one_at : (circuits : List CircuitConfig) (index regions : ℕ) → Regions circuits index regions → (here : CircuitConfig) → here.region + 1 ≤ regions → (0 < index) ⊎ (index ≤ 0)
    → ((c : ℕ) × (circuit : CircuitConfig) × (slice_get circuits c ≡ Some circuit) × (circuit.region + 1 ≡ regions))
one_at circuits index regions h here enough (inl some) = h.one some
one_at circuits index regions h here enough (inr none) = let e : index ≡ 0 = omega arith in let f = h.none e in absurd (omega arith)

-- one with no greater region
pub region_kept : (circuits : List CircuitConfig) (index regions : ℕ) (here : CircuitConfig) → slice_get circuits index ≡ Some here → here.region + 1 ≤ regions
    → Regions circuits index regions → Regions circuits (index + 1) regions
region_kept circuits index regions here is enough h = record {
  none = λ e. absurd (omega arith);
  each = λ c circuit less there.
      let within : here.region < regions = omega arith in
      each_at circuits index regions here c circuit is within h.each less there (cases_lt c index);
  one = λ some. one_at circuits index regions h here enough (cases_lt 0 index);
  most = h.most;
}
