-- What a tally has of all datagrams, and of those of each circuit.
use Rattle.std.proofs.Common.{◌≡◌, ◌≢◌, ◌∙◌, ◌==◌, ℕ, zero, suc, Bool, true, false, List, [], ◌∷◌, map, refl, sym, ap, subst}
use Rattle.std.specs.Prelude.{Option, Some, None, option_map, slice_get, if◌then◌else◌}
use Rattle.std.proofs.lemmas.Bool.{eqb-true, eqb-false}
use Rattle.std.specs.List.{cons_option}
use Rattle.counts.specs.CircuitCounts.{CircuitCountsValue, counted_at, counted_for}
use Rattle.counts.specs.Counts.{counted, counted_all}
use Rattle.counts.specs.Tally.{CircuitFate, counted_by, fates_of, own_fate, tallied, tallied_all}
use Rattle.counts.specs.declared.counts.Counts.{Counts}
use Rattle.counts.specs.declared.counts.Fate.{Fate}
use Rattle.counts.specs.declared.tally.Tally.{Tally}

pub all_counted : (outcomes : List CircuitFate) (tally : Tally) → (tallied_all outcomes tally).all ≡ counted_all (map (λ (o : CircuitFate). o.became) outcomes) tally.all
all_counted [] tally = refl
all_counted (o ∷ os) tally = all_counted os (tallied o tally)

-- what one datagram adds to the counts of circuit c
abbrev more : Option Fate → Counts → Counts
more None counts = counts
more (Some became) counts = counted became counts

same_option : (x : Option Counts) → x ≡ option_map (λ (counts : Counts). counts) x
same_option None = refl
same_option (Some counts) = refl

counted_past : (k : ℕ) (became : Fate) (x : Counts) (counts : List Counts) (found : Option Counts) → counted_at (x ∷ counts) (suc k) became found ≡ x ∷ counted_at counts k became found
counted_past k became x counts None = refl
counted_past k became x counts (Some own) = refl

for_same : (c : ℕ) (became : Fate) (counts : List Counts) → slice_get (counted_for c became counts) c ≡ option_map (counted became) (slice_get counts c)
for_same c became [] = refl
for_same zero became (x ∷ counts) = refl
for_same (suc c) became (x ∷ counts) = ap (λ (xs : List Counts). slice_get xs (suc c)) (counted_past c became x counts (slice_get counts c)) ∙ for_same c became counts

for_other : (c k : ℕ) (became : Fate) (counts : List Counts) → k ≢ c → slice_get (counted_for k became counts) c ≡ slice_get counts c
for_other c k became [] other = refl
for_other zero zero became (x ∷ counts) other = absurd (other refl)
for_other (suc c) zero became (x ∷ counts) other = refl
for_other zero (suc k) became (x ∷ counts) other = ap (λ (xs : List Counts). slice_get xs zero) (counted_past k became x counts (slice_get counts k))
for_other (suc c) (suc k) became (x ∷ counts) other =
    ap (λ (xs : List Counts). slice_get xs (suc c)) (counted_past k became x counts (slice_get counts k)) ∙ for_other c k became counts (λ same. other (ap suc same))

for_one : (c k : ℕ) (became : Fate) (counts : List Counts) → slice_get (counted_for k became counts) c ≡ option_map (more (if k == c then Some became else None)) (slice_get counts c)
for_one c k became counts = by (k == c) refl where
  by : (b : Bool) → (k == c) ≡ b → slice_get (counted_for k became counts) c ≡ option_map (more (if b then Some became else None)) (slice_get counts c)
  by true same = subst (λ n. slice_get (counted_for n became counts) c ≡ option_map (counted became) (slice_get counts c)) (sym (eqb-true k c same)) (for_same c became counts)
  by false other = for_other c k became counts (eqb-false k c other) ∙ same_option (slice_get counts c)

by_one : (c : ℕ) (circuit : Option ℕ) (became : Fate) (counts : CircuitCountsValue) → slice_get (counted_by circuit became counts).circuits c ≡ option_map (more (own_fate c circuit became)) (slice_get counts.circuits c)
by_one c None became counts = same_option (slice_get counts.circuits c)
by_one c (Some k) became counts = for_one c k became counts.circuits

pub own_counted : (c : ℕ) (outcomes : List CircuitFate) (tally : Tally) → slice_get (tallied_all outcomes tally).by_circuit.circuits c ≡ option_map (counted_all (fates_of c outcomes)) (slice_get tally.by_circuit.circuits c)
own_counted c [] tally = same_option (slice_get tally.by_circuit.circuits c)
own_counted c (o ∷ os) tally = own_counted c os (tallied o tally)
    ∙ ap (option_map (counted_all (fates_of c os))) (by_one c o.circuit o.became tally.by_circuit)
    ∙ then_more (own_fate c o.circuit o.became) (slice_get tally.by_circuit.circuits c) where
      then_more : (own : Option Fate) (found : Option Counts) → option_map (counted_all (fates_of c os)) (option_map (more own) found) ≡ option_map (counted_all (cons_option own (fates_of c os))) found
      then_more own None = refl
      then_more None (Some counts) = refl
      then_more (Some became) (Some counts) = refl
