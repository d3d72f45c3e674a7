-- The sync of a step, for every part that is still saving.
use Rattle.std.proofs.Common.{Result, Ok, Err, is_ok, OnOk, OnErr, not, ◌≡◌, ◌≢◌, ℕ, ◌+◌, ◌-◌, ◌<◌, ◌==◌, if◌then◌else◌, Bool, true, false, ◌||◌, List, [], ◌∷◌, length, eq-eqb, refl, sym, ap, ◌∙◌, subst, arith}
use Rattle.std.specs.List.{list_any}
use Rattle.std.proofs.lemmas.Bool.{false≢true}
use Rattle.std.proofs.lemmas.List.Folds.{list_any_at}
use Rattle.lease_disk.specs.declared.format2.steps.SaveStep.{SaveStep}
use Rattle.lease_disk.specs.declared.saving.Saving.{Saving}
use Rattle.lease_disk.specs.Device.{Device, TouchesAll, is_in}
use Rattle.lease_disk.specs.Region.{Region, synced}
use Rattle.batch_saves.specs.Batch.{AreApart, no_part, part_at}
use Rattle.batch_saves.specs.Seen.{Seen, seen, unknown}
use Rattle.batch_saves.specs.Steps.{AreSaving, IsSyncOf, IsSyncPart, call_of, is_saving}
use Rattle.batch_saves.proofs.Going.{differ}
use Rattle.batch_saves.proofs.Parts.{none_passes}

or_true : (b : Bool) → (b || true) ≡ true
or_true true = refl
or_true false = refl

-- ---- the regions of the parts before this one that are still saving

pub record AreBelow (parts : List Saving) (n : ℕ) (regions : List ℕ) : Type 0 where
  pub each : (i : ℕ) → i < n → (part_at parts i).failed ≡ 0 → is_in regions (part_at parts i).region ≡ true
  pub only : (q : ℕ) → is_in regions q ≡ true → (i : ℕ) × ((i < n) × ((part_at parts i).failed ≡ 0) × ((part_at parts i).region ≡ q))

-- ---- one of a list

pub any_found : (p : ℕ → Bool) (xs : List ℕ) → list_any p xs ≡ true → (x : ℕ) × ((is_in xs x ≡ true) × (p x ≡ true))
any_found p [] there = absurd cc
any_found p (y ∷ ys) there = by (p y) refl (λ rest. any_found p ys rest) where
  by : (b : Bool) → p y ≡ b → (list_any p ys ≡ true → (x : ℕ) × ((is_in ys x ≡ true) × (p x ≡ true))) → (x : ℕ) × ((is_in (y ∷ ys) x ≡ true) × (p x ≡ true))
  by true holds rest = (y, (ap (λ b. b || is_in ys y) (eq-eqb y y refl), holds))
  by false fails rest =
      let found = rest (sym (ap (λ b. b || list_any p ys) fails) ∙ there) in
      (found.0, (ap (λ b. (y == found.0) || b) found.1.0 ∙ or_true (y == found.0), found.1.1))

any_in : (p : ℕ → Bool) (xs : List ℕ) (x : ℕ) → is_in xs x ≡ true → p x ≡ true → list_any p xs ≡ true
any_in p [] x there holds = absurd cc
any_in p (y ∷ ys) x there holds = by (y == x) refl (λ further. any_in p ys x further holds) where
  by : (b : Bool) → (y == x) ≡ b → (is_in ys x ≡ true → list_any p ys ≡ true) → list_any p (y ∷ ys) ≡ true
  by true same rest = let is : y ≡ x = grind (arith, same) in ap (λ b. b || list_any p ys) (ap p is ∙ holds)
  by false other rest =
      let further : is_in ys x ≡ true = sym (ap (λ b. b || is_in ys x) other) ∙ there in
      ap (λ b. p y || b) (rest further) ∙ or_true (p y)

pub any_none : (p : ℕ → Bool) (xs : List ℕ) → list_any p xs ≡ false → (x : ℕ) → is_in xs x ≡ true → p x ≡ false
any_none p xs none x there = by (p x) refl where
  by : (b : Bool) → p x ≡ b → p x ≡ false
  by false fails = fails
  by true holds = absurd (false≢true (sym none ∙ any_in p xs x there holds))

-- ---- what is seen of a region

pub seen_region : (tells : Bool) (device : Device) (r : ℕ) → tells ≡ true → (seen tells device r).region ≡ device.region r
seen_region true device r t = refl
seen_region false device r t = absurd cc

pub seen_failing_call : (tells : Bool) (device : Device) (r : ℕ) → tells ≡ true → (seen tells device r).failing_call ≡ device.failing_call r
seen_failing_call true device r t = refl
seen_failing_call false device r t = absurd cc

pub seen_failures : (tells : Bool) (device : Device) (r : ℕ) → (seen tells device r).failures ≡ device.failures r
seen_failures true device r = refl
seen_failures false device r = refl

pub seen_kept : (tells : Bool) (old new : Device) (r : ℕ) → (tells ≡ true → new.region r ≡ old.region r) → (tells ≡ true → new.failing_call r ≡ old.failing_call r) → new.failures r ≡ old.failures r
    → seen tells new r ≡ seen tells old r
seen_kept true old new r region failing_call failures = made (new.region r) (old.region r) (new.failing_call r) (old.failing_call r) (new.failures r) (old.failures r) (region refl) (failing_call refl) failures where
  made : (a b : Region) (m n x y : ℕ) → a ≡ b → m ≡ n → x ≡ y → ◌≡◌ {A = Seen} (record { region = a; failing_call = m; failures = x }) (record { region = b; failing_call = n; failures = y })
  made a b m n x y e f g = rw (e, f, g) refl
seen_kept false old new r region failing_call failures = ap (λ n. record { region = unknown; failing_call = 0; failures = n }) failures

-- ---- what the sync leaves of each part's region

-- there is a region exactly where a part is still saving
pub one_saving : (parts : List Saving) (regions : List ℕ) → AreSaving parts regions → regions ≢ [] → list_any is_saving parts ≡ true
one_saving parts [] saving some = absurd (some refl)
one_saving parts (x ∷ xs) saving some =
    let there = saving.only x (ap (λ b. b || is_in xs x) (eq-eqb x x refl)) in
    list_any_at is_saving parts there.0 no_part there.1.0 (eq-eqb (part_at parts there.0).failed 0 there.1.1)

pub none_saving : (parts : List Saving) (regions : List ℕ) → AreSaving parts regions → regions ≡ [] → list_any is_saving parts ≡ false
none_saving parts regions saving none = none_passes is_saving parts (λ i within. by i within (is_saving (part_at parts i)) refl) where
  by : (i : ℕ) → i < length parts → (b : Bool) → is_saving (part_at parts i) ≡ b → is_saving (part_at parts i) ≡ false
  by i within true e =
      let there : is_in regions (part_at parts i).region ≡ true = saving.each i within (grind (arith, e)) in
      absurd (false≢true (sym (ap (λ rs. is_in rs (part_at parts i).region) none) ∙ there))
  by i within false e = e

module _ (tells : Bool) (step : SaveStep) (fails : Bool) (parts : List Saving) (regions : List ℕ) (saving : AreSaving parts regions) (apart : AreApart parts) (old new : Device)
    (region : tells ≡ true → (r : ℕ) → is_in regions r ≡ true → new.region r ≡ (if fails then old.region r else synced (old.region r)))
    (failing_call : tells ≡ true → (r : ℕ) → is_in regions r ≡ true → new.failing_call r ≡ old.failing_call r - 1)
    (frame : TouchesAll tells regions old new)
    (failures : new.failures ≡ (if fails then (λ q. if is_in regions q then old.failures q + 1 else old.failures q) else old.failures)) where
  not_in : (i : ℕ) → i < length parts → (part_at parts i).failed ≢ 0 → is_in regions (part_at parts i).region ≡ false
  not_in i within failed = by (is_in regions (part_at parts i).region) refl where
    by : (b : Bool) → is_in regions (part_at parts i).region ≡ b → is_in regions (part_at parts i).region ≡ false
    by false outside = outside
    by true inside =
        let there = saving.only (part_at parts i).region inside in
        absurd (by_place there.0 there.1.0 there.1.1 there.1.2 (there.0 == i) refl) where
          by_place : (j : ℕ) → j < length parts → (part_at parts j).failed ≡ 0 → (part_at parts j).region ≡ (part_at parts i).region → (b : Bool) → (j == i) ≡ b → ⊥
          by_place j below zero same true e = let here : j ≡ i = grind (arith, e) in failed (sym (ap (λ k. (part_at parts k).failed) here) ∙ zero)
          by_place j below zero same false e = differ parts apart j i below within (λ here. absurd (grind (arith, e, here))) same

  count : (q : ℕ) (b : Bool) → is_in regions q ≡ b → new.failures q ≡ (if fails then (if b then old.failures q + 1 else old.failures q) else old.failures q)
  count q b is = ap (λ (f : ℕ → ℕ). f q) failures ∙ by fails where
    by : (t : Bool) → (if t then (λ p. if is_in regions p then old.failures p + 1 else old.failures p) else old.failures) q ≡ (if t then (if b then old.failures q + 1 else old.failures q) else old.failures q)
    by true = ap (λ t. if t then old.failures q + 1 else old.failures q) is
    by false = refl

  same_if : (t : Bool) (n : ℕ) → (if t then n else n) ≡ n
  same_if true n = refl
  same_if false n = refl

  pub synced_out : (q : ℕ) → is_in regions q ≡ false → seen tells new q ≡ seen tells old q
  synced_out q outside = seen_kept tells old new q (λ t. frame.region t q outside) (λ t. frame.failing_call t q outside) (count q false outside ∙ same_if fails (old.failures q))

  pub synced_in : (q : ℕ) → is_in regions q ≡ true → IsSyncPart tells step fails (if fails then call_of step + 1 else 0) (seen tells old q) (seen tells new q)
  synced_in q inside = record {
    failed = refl;
    region = λ t. seen_region tells new q t ∙ region t q inside ∙ sym (ap (λ r. if fails then r else synced r) (seen_region tells old q t));
    failing_call = λ t. seen_failing_call tells new q t ∙ failing_call t q inside ∙ sym (ap (λ n. n - 1) (seen_failing_call tells old q t));
    failures = seen_failures tells new q ∙ count q true inside ∙ sym (ap (λ n. if fails then n + 1 else n) (seen_failures tells old q));
  }

  pub synced_part : (i : ℕ) → i < length parts → (now : ℕ) → now ≡ (if (part_at parts i).failed == 0 then (if fails then call_of step + 1 else 0) else (part_at parts i).failed)
      → IsSyncOf tells step fails (part_at parts i).failed now (seen tells old (part_at parts i).region) (seen tells new (part_at parts i).region)
  synced_part i within now is = record {
    out = λ failed. (is ∙ other (part_at parts i).failed failed, synced_out (part_at parts i).region (not_in i within failed));
    still = λ zero. subst (λ n. IsSyncPart tells step fails n (seen tells old (part_at parts i).region) (seen tells new (part_at parts i).region))
        (sym (is ∙ ap (λ f. if f == 0 then (if fails then call_of step + 1 else 0) else f) zero))
        (synced_in (part_at parts i).region (saving.each i within zero));
  } where
    other : (f : ℕ) → f ≢ 0 → (if f == 0 then (if fails then call_of step + 1 else 0) else f) ≡ f
    other f some = by (f == 0) refl where
      by : (b : Bool) → (f == 0) ≡ b → (if b then (if fails then call_of step + 1 else 0) else f) ≡ f
      by true e = absurd (some (grind (arith, e)))
      by false e = refl

-- ---- what a call promises where it succeeds, and where it fails

pub where_ok : {T E P : Type 0} (result : Result T E) → is_ok result ≡ true → OnOk result P → P
where_ok (Ok x) is holds = holds
where_ok (Err e) is holds = absurd (false≢true is)

pub where_err : {T E P : Type 0} (result : Result T E) → is_ok result ≡ false → OnErr result P → P
where_err (Ok x) is holds = absurd (false≢true (sym is))
where_err (Err e) is holds = holds

pub to_true : (a b : Bool) → a ≡ not b → a ≡ true → b ≡ false
to_true a true e t = absurd (false≢true (sym e ∙ t))
to_true a false e t = refl

pub to_false : (a b : Bool) → a ≡ not b → a ≡ false → b ≡ true
to_false a true e t = refl
to_false a false e t = absurd (false≢true (sym t ∙ e))

kept_if : (n : ℕ) → n ≡ (if n == 0 then 0 else n)
kept_if n = by (n == 0) refl where
  by : (b : Bool) → (n == 0) ≡ b → n ≡ (if b then 0 else n)
  by true e = grind (arith, e)
  by false e = refl

pub kept_zero : (n : ℕ) → n ≡ (if n == 0 then 0 else n)
kept_zero = kept_if
