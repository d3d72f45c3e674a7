-- How often saves that share their syncs call the device.
use Rattle.std.proofs.Common.{◌≡◌, ◌∙◌, ◌+◌, ◌*◌, ◌<◌, ◌≤◌, ◌==◌, ◌||◌, ◌&&◌, nat_le, nat_lt, not, ℕ, zero, suc, Bool, true, false, List, [], ◌∷◌, fold, length, refl, sym, ap, subst, arith}
use Rattle.std.specs.Prelude.{if◌then◌else◌}
use Rattle.std.specs.List.{list_any}
use Rattle.std.proofs.lemmas.Bool.{eq-eqb, eqb-true}
use Rattle.std.proofs.lemmas.List.{length-map}
use Rattle.lease_disk.specs.Device.{Device, has_failed, is_in}
use Rattle.batch_saves.specs.Batch.{batch_calls, comes_to, failed_of, part_at, regions_of, step_calls}
use Rattle.lease_disk.specs.declared.saving.Saving.{Saving}
use Rattle.circuit_server.specs.Calls.{IsCalledToSave, save_calls}
use Rattle.circuit_server.proofs.PreparedLemmas.{not_not}
use Rattle.dispatch.specs.Parts.{AreSavedTogether}
use Rattle.dispatch.proofs.BatchLemmas.{raised, region_found}
use Rattle.dispatch.proofs.PartLemmas.{same_number}

or_true : (b : Bool) → (b || true) ≡ true
or_true true = refl
or_true false = refl

one_at_most : (b : Bool) → (if b then 1 else 0) ≤ 1
one_at_most true = omega arith
one_at_most false = omega arith

save_some : (n : ℕ) → 1 ≤ n → save_calls n ≡ 3 * n + 3
save_some n some = by (n == 0) refl where
  by : (b : Bool) → (n == 0) ≡ b → save_calls n ≡ 3 * n + 3
  by true e = absurd (grind (arith, e, some))
  by false e = ap (λ b. if b then 0 else 3 * n + 3) e

-- ---- at most

counted_few : (n : ℕ) (failed : List ℕ) (a : ℕ) → fold (λ m k. m + (if comes_to n k then 1 else 0)) a failed ≤ a + length failed
counted_few n [] a = omega arith
counted_few n (k ∷ failed) a =
    let more = counted_few n failed (a + (if comes_to n k then 1 else 0)) in
    let one = one_at_most (comes_to n k) in
    omega (arith, more, one)

step_few : (n : ℕ) (failed : List ℕ) → step_calls n failed ≤ length failed + 1
step_few n failed =
    let writes = counted_few n failed 0 in
    let sync = one_at_most (list_any (comes_to (n + 1)) failed) in
    omega (arith, writes, sync)

calls_few : (failed : List ℕ) → batch_calls failed ≤ save_calls (length failed)
calls_few [] = omega arith
calls_few (k ∷ failed) =
    let one = step_few 1 (k ∷ failed) in
    let two = step_few 3 (k ∷ failed) in
    let three = step_few 5 (k ∷ failed) in
    let all = save_some (length (k ∷ failed)) (omega arith) in
    omega (arith, one, two, three, all)

-- ---- where none failed

abbrev NoneFailed : List Saving → Type 0
NoneFailed ss = (i : ℕ) → i < length ss → (part_at ss i).failed ≡ 0

comes : (n k : ℕ) → k ≡ 0 → comes_to n k ≡ true
comes n k none = ap (λ b. b || nat_le n k) (eq-eqb k 0 none)

counted_all : (n : ℕ) (ss : List Saving) (a : ℕ) → NoneFailed ss → fold (λ m k. m + (if comes_to n k then 1 else 0)) a (failed_of ss) ≡ a + length ss
counted_all n [] a none = omega arith
counted_all n (s ∷ ss) a none =
    let here = comes n s.failed (none 0 (omega arith)) in
    ap (λ b. fold (λ m k. m + (if comes_to n k then 1 else 0)) (a + (if b then 1 else 0)) (failed_of ss)) here
    ∙ counted_all n ss (a + 1) (λ i below. none (suc i) (omega (arith, below)))
    ∙ omega arith

step_all : (n : ℕ) (s : Saving) (ss : List Saving) → NoneFailed (s ∷ ss) → step_calls n (failed_of (s ∷ ss)) ≡ length (s ∷ ss) + 1
step_all n s ss none =
    let writes = counted_all n (s ∷ ss) 0 none in
    let sync : list_any (comes_to (n + 1)) (failed_of (s ∷ ss)) ≡ true = ap (λ b. b || list_any (comes_to (n + 1)) (failed_of ss)) (comes (n + 1) s.failed (none 0 (omega arith))) in
    ap (λ b. fold (λ m k. m + (if comes_to n k then 1 else 0)) 0 (failed_of (s ∷ ss)) + (if b then 1 else 0)) sync
    ∙ omega (arith, writes)

calls_all : (ss : List Saving) → NoneFailed ss → batch_calls (failed_of ss) ≡ save_calls (length ss)
calls_all [] none = refl
calls_all (s ∷ ss) none =
    let one = step_all 1 s ss none in
    let two = step_all 3 s ss none in
    let three = step_all 5 s ss none in
    let all = save_some (length (s ∷ ss)) (omega arith) in
    omega (arith, one, two, three, all)

-- ---- all together

region_there : (ss : List Saving) (n : ℕ) → n < length ss → is_in (regions_of ss) (part_at ss n).region ≡ true
region_there [] n less = absurd (omega (arith, less))
region_there (s ∷ ss) zero less = ap (λ b. b || is_in (regions_of ss) s.region) (same_number s.region)
region_there (s ∷ ss) (suc n) less =
    let r = (part_at ss n).region in
    ap (λ b. (s.region == r) || b) (region_there ss n (omega (arith, less))) ∙ or_true (s.region == r)

either_one : (b : Bool) (n : ℕ) → n + (if b then 0 else 1) ≡ n + (if not b then 1 else 0)
either_one true n = refl
either_one false n = refl

module _ (tells : Bool) (ss now : List Saving) (was later : Device) (saved : AreSavedTogether tells ss now was later) (calls : later.writes ≡ was.writes + batch_calls (failed_of now)) where
  fails : (n : ℕ) → n < length ss → has_failed was later (part_at ss n).region ≡ not ((part_at now n).failed == 0)
  fails n less =
      let r = (part_at ss n).region in
      ap (nat_lt (was.failures r)) (saved.each n less).failures ∙ raised ((part_at now n).failed == 0) (was.failures r)

  none_failed : ((r : ℕ) → is_in (regions_of ss) r ≡ true → has_failed was later r ≡ false) → NoneFailed now
  none_failed held n less =
      let count = saved.count in
      let inside : n < length ss = omega (arith, less, count) in
      let k = (part_at now n).failed in
      eqb-true k 0 (not_not (k == 0) ∙ ap not (sym (fails n inside) ∙ held (part_at ss n).region (region_there ss n inside)))

  pub saved_called : IsCalledToSave (regions_of ss) was later
  saved_called = record {
    reads = saved.frame.reads;
    writes = λ held.
        let all = calls_all now (none_failed held) in
        let size : save_calls (length now) ≡ save_calls (length (regions_of ss)) = ap save_calls (saved.count ∙ sym (length-map ss (λ (s : Saving). s.region))) in
        calls ∙ ap (λ n. was.writes + n) (all ∙ size);
    most =
        let few = calls_few (failed_of now) in
        let size : save_calls (length (failed_of now)) ≡ save_calls (length (regions_of ss)) = ap save_calls (length-map now (λ (s : Saving). s.failed) ∙ saved.count ∙ sym (length-map ss (λ (s : Saving). s.region))) in
        omega (arith, few, size, calls);
    failures = λ r. by r (is_in (regions_of ss) r) refl;
  } where
    by : (r : ℕ) (b : Bool) → is_in (regions_of ss) r ≡ b → later.failures r ≡ was.failures r + (if is_in (regions_of ss) r && has_failed was later r then 1 else 0)
    by r false e =
        let same = saved.others r e in
        let still : later.failures r ≡ was.failures r + 0 = omega (arith, same) in
        still ∙ sym (ap (λ b. was.failures r + (if b && has_failed was later r then 1 else 0)) e)
    by r true e =
        let n = region_found ss r e in
        let k = (part_at now n.0).failed in
        let more : later.failures r ≡ was.failures r + (if k == 0 then 0 else 1) = subst (λ q. later.failures q ≡ was.failures q + (if k == 0 then 0 else 1)) n.2 (saved.each n.0 n.1).failures in
        let its : has_failed was later r ≡ not (k == 0) = subst (λ q. has_failed was later q ≡ not (k == 0)) n.2 (fails n.0 n.1) in
        more ∙ either_one (k == 0) (was.failures r)
        ∙ sym (ap (λ b. was.failures r + (if b && has_failed was later r then 1 else 0)) e ∙ ap (λ b. was.failures r + (if b then 1 else 0)) its)
