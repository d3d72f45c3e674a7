-- How many calls a step makes, by what has failed when the batch ends.
use Rattle.std.proofs.Common.{◌≡◌, ◌≢◌, ℕ, ◌+◌, ◌<◌, ◌≤◌, ◌==◌, ◌||◌, nat_le, if◌then◌else◌, Bool, true, false, List, count_by, eq-eqb, length, refl, sym, ap, ap₂, ◌∙◌, subst, arith}
use Rattle.std.specs.List.{list_any}
use Rattle.lease_disk.specs.declared.format2.steps.SaveStep.{SaveStep}
use Rattle.lease_disk.specs.declared.format2.steps.SaveStep.TheVariants.{Close, Fill, Open}
use Rattle.lease_disk.specs.declared.saving.Saving.{Saving}
use Rattle.lease_disk.specs.Device.{Device}
use Rattle.batch_saves.specs.Batch.{batch_calls, comes_to, failed_of, part_at, step_calls}
use Rattle.batch_saves.specs.Seen.{Seen, seen}
use Rattle.batch_saves.specs.Steps.{AreStepped, AreSynced, AreWritten, Change, FailedBefore, IsSyncOf, IsTurned, IsWriteOf, call_of, change_of, is_saving}
use Rattle.batch_saves.proofs.Parts.{any_later, any_on, count_later, count_on}

either : (k : ℕ) (P : Type 0) → (k ≡ 0 → P) → (k ≢ 0 → P) → P
either k P at_zero elsewhere = by (k == 0) refl where
  by : (b : Bool) → (k == 0) ≡ b → P
  by true e = at_zero (grind (arith, e))
  by false e = elsewhere (λ z. absurd (grind (arith, e, z)))

-- ---- the numbers

all_come : (n k : ℕ) → k ≡ 0 → comes_to n k ≡ true
all_come n k none = ap (λ b. b || nat_le n k) (eq-eqb k 0 none)

come_late : (n k : ℕ) → n ≤ k → comes_to n k ≡ true
come_late n k late = grind (arith, late)

come_early : (n k : ℕ) → k ≢ 0 → k < n → comes_to n k ≡ false
come_early n k some early = grind (arith, some, early)

-- what failed of a part, then and later: a later call fails where none has failed
pub record Later (n first later : ℕ) : Type 0 where
  pub stays : first ≢ 0 → later ≡ first
  pub comes : first ≡ 0 → comes_to n later ≡ true

come_before : (m n k : ℕ) → m ≤ n → comes_to n k ≡ true → comes_to m k ≡ true
come_before m n k less comes = either k (comes_to m k ≡ true) (all_come m k) (λ some.
    let late : n ≤ k = grind (arith, some, comes) in
    come_late m k (omega (arith, late, less)))

pub come_same : (m n first later : ℕ) → m ≤ n → Later n first later → comes_to m first ≡ comes_to m later
come_same m n first later less on = either first (comes_to m first ≡ comes_to m later)
    (λ none. all_come m first none ∙ sym (come_before m n later less (on.comes none)))
    (λ some. ap (comes_to m) (sym (on.stays some)))

pub later_still : (n m a b c : ℕ) → n ≤ m → Later n a b → Later m b c → Later n a c
later_still n m a b c less first second = record {
  stays = λ some. second.stays (λ none. some (sym (first.stays some) ∙ none)) ∙ first.stays some;
  comes = λ zero. either b (comes_to n c ≡ true) (λ none. come_before n m c less (second.comes none)) (λ some. ap (comes_to n) (second.stays some) ∙ first.comes zero);
}

pub no_later : (n a b : ℕ) → b ≡ a → Later n a b
no_later n a b is = record { stays = λ some. is; comes = λ none. all_come n b (is ∙ none) }

-- ---- one part through a step

some_call : (step : SaveStep) → 1 ≤ call_of step
some_call Close = omega arith
some_call Fill = omega arith
some_call Open = omega arith

if_by : (b : Bool) (x m : ℕ) (P : Type 0) → m ≡ (if b then x else 0) → (m ≡ 0 → P) → (m ≡ x → P) → P
if_by true x m P is none some = some is
if_by false x m P is none some = none is

module _ (tells : Bool) (step : SaveStep) (c : Change) (fails : Bool) (was mid now : ℕ) (s t u : Seen) (write : IsWriteOf tells step c was mid s t) (sync : IsSyncOf tells step fails mid now t u) where
  mid_by : (P : Type 0) → was ≡ 0 → (mid ≡ 0 → P) → (mid ≡ call_of step → P) → P
  mid_by P none at_zero elsewhere = if_by (write.still none).0 (call_of step) mid P (write.still none).1.failed at_zero elsewhere

  now_by : (P : Type 0) → mid ≡ 0 → (now ≡ 0 → P) → (now ≡ call_of step + 1 → P) → P
  now_by P none at_zero elsewhere = if_by fails (call_of step + 1) now P (sync.still none).failed at_zero elsewhere

  now_is_mid : mid ≢ 0 → now ≡ mid
  now_is_mid some = (sync.out some).0

  mid_is_was : was ≢ 0 → mid ≡ was
  mid_is_was some = (write.out some).0

  now_is_was : was ≢ 0 → now ≡ was
  now_is_was some = now_is_mid (λ none. some (sym (mid_is_was some) ∙ none)) ∙ mid_is_was some

  pub part_later : Later (call_of step) was now
  part_later = record {
    stays = now_is_was;
    comes = λ none. mid_by (comes_to (call_of step) now ≡ true) none
        (λ also. now_by (comes_to (call_of step) now ≡ true) also (all_come (call_of step) now) (λ is. come_late (call_of step) now (omega (arith, is))))
        (λ is. let some : mid ≢ 0 = λ zero. absurd (let least = some_call step in omega (arith, zero, is, least)) in
        let same = now_is_mid some in
        come_late (call_of step) now (omega (arith, same, is)));
  }

  pub part_bound : was < call_of step → now < call_of step + 2
  part_bound before = either was (now < call_of step + 2)
      (λ none. mid_by (now < call_of step + 2) none
      (λ also. now_by (now < call_of step + 2) also (λ is. omega (arith, is)) (λ is. omega (arith, is)))
      (λ is. let some : mid ≢ 0 = λ zero. absurd (let least = some_call step in omega (arith, zero, is, least)) in
      let same = now_is_mid some in
      omega (arith, same, is)))
      (λ some. let same = now_is_was some in omega (arith, same, before))

  pub came_write : was < call_of step → (was == 0) ≡ comes_to (call_of step) now
  came_write before = either was ((was == 0) ≡ comes_to (call_of step) now)
      (λ none. eq-eqb was 0 none ∙ sym (part_later.comes none))
      (λ some. let same = now_is_was some in
      let early : was < call_of step = before in
      ne_false was some ∙ sym (ap (comes_to (call_of step)) same ∙ come_early (call_of step) was some early)) where
        ne_false : (n : ℕ) → n ≢ 0 → (n == 0) ≡ false
        ne_false n some = grind (arith, some)

  mid_bound : was < call_of step → mid ≢ 0 → mid < call_of step + 1
  mid_bound before some = either was (mid < call_of step + 1)
      (λ none. mid_by (mid < call_of step + 1) none (λ zero. absurd (some zero)) (λ is. omega (arith, is)))
      (λ other. let same = mid_is_was other in omega (arith, same, before))

  pub came_sync : was < call_of step → (mid == 0) ≡ comes_to (call_of step + 1) now
  came_sync before = either mid ((mid == 0) ≡ comes_to (call_of step + 1) now)
      (λ none. eq-eqb mid 0 none ∙ sym (now_by (comes_to (call_of step + 1) now ≡ true) none (all_come (call_of step + 1) now) (λ is. come_late (call_of step + 1) now (omega (arith, is)))))
      (λ some. let same = now_is_mid some in
      ne_false mid some ∙ sym (ap (comes_to (call_of step + 1)) same ∙ come_early (call_of step + 1) mid some (mid_bound before some))) where
        ne_false : (n : ℕ) → n ≢ 0 → (n == 0) ≡ false
        ne_false n some = grind (arith, some)

-- ---- all parts through a step

pub step_made : (tells : Bool) (step : SaveStep) (was mid now : List Saving) (old between new : Device) → length mid ≡ length was → length now ≡ length mid
    → AreWritten tells step was mid old between → AreSynced tells step mid now between new → FailedBefore (call_of step) was
    → count_by is_saving was + (if list_any is_saving mid then 1 else 0) ≡ step_calls (call_of step) (failed_of now)
step_made tells step was mid now old between new size ends written synced before =
    ap₂ (λ n b. n + (if b then 1 else 0))
    (count_later is_saving (comes_to (call_of step)) was now (ends ∙ size) (λ i below. came_write tells step (change_of (part_at was i)) synced.fails (part_at was i).failed (part_at mid i).failed (part_at now i).failed
    (seen tells old (part_at was i).region) (seen tells between (part_at was i).region) (seen tells new (part_at was i).region) (written i below).write (sync_at i below) (before i below)))
    (any_later is_saving (comes_to (call_of step + 1)) mid now ends (λ i below. came_sync tells step (change_of (part_at was i)) synced.fails (part_at was i).failed (part_at mid i).failed (part_at now i).failed
    (seen tells old (part_at was i).region) (seen tells between (part_at was i).region) (seen tells new (part_at was i).region) (written i (back i below)).write (sync_at i (back i below)) (before i (back i below)))) where
      back : (i : ℕ) → i < length mid → i < length was
      back i below = subst (λ n. i < n) size below

      sync_at : (i : ℕ) → i < length was → IsSyncOf tells step synced.fails (part_at mid i).failed (part_at now i).failed (seen tells between (part_at was i).region) (seen tells new (part_at was i).region)
      sync_at i below =
          subst (λ r. IsSyncOf tells step synced.fails (part_at mid i).failed (part_at now i).failed (seen tells between r) (seen tells new r)) (ap (λ (p : Saving). p.region) (written i below).part)
          (synced.parts i (subst (λ n. i < n) (sym size) below)).sync

module _ (tells : Bool) (step : SaveStep) (was now : List Saving) (old new : Device) (stepped : AreStepped tells step was now old new) where
  pub step_later : (i : ℕ) → i < length was → Later (call_of step) (part_at was i).failed (part_at now i).failed
  step_later i below = let one = stepped.parts i below in
      part_later tells step (change_of (part_at was i)) stepped.fails (part_at was i).failed one.failed (part_at now i).failed (seen tells old (part_at was i).region) one.between (seen tells new (part_at was i).region) one.write one.sync

  pub step_bound : length now ≡ length was → FailedBefore (call_of step) was → FailedBefore (call_of step + 2) now
  step_bound size before i below = let inside = subst (λ n. i < n) size below in let one = stepped.parts i inside in
      part_bound tells step (change_of (part_at was i)) stepped.fails (part_at was i).failed one.failed (part_at now i).failed (seen tells old (part_at was i).region) one.between (seen tells new (part_at was i).region) one.write one.sync (before i inside)

-- ---- the calls of a step, by what has failed in the end

pub same_calls : (n m : ℕ) (was now : List Saving) → n + 1 ≤ m → length now ≡ length was → ((i : ℕ) → i < length was → Later m (part_at was i).failed (part_at now i).failed) → step_calls n (failed_of was) ≡ step_calls n (failed_of now)
same_calls n m was now less size later =
    ap₂ (λ k b. k + (if b then 1 else 0))
    (count_on (comes_to n) (comes_to n) was now size (λ i below. come_same n m (part_at was i).failed (part_at now i).failed (omega (arith, less)) (later i below)))
    (any_on (comes_to (n + 1)) (comes_to (n + 1)) was now size (λ i below. come_same (n + 1) m (part_at was i).failed (part_at now i).failed less (later i below)))

-- ---- the whole batch

pub before1 : (parts : List Saving) → ((i : ℕ) → i < length parts → (part_at parts i).failed ≡ 0) → FailedBefore 1 parts
before1 parts fresh i below = let none = fresh i below in omega (arith, none)

pub batch_made : (tells : Bool) (p0 p1 p2 p3 p4 : List Saving) (d0 d1 d2 d3 : Device) → length p1 ≡ length p0 → length p2 ≡ length p1 → length p3 ≡ length p2 → length p4 ≡ length p3
    → AreStepped tells Close p0 p1 d0 d1 → AreStepped tells Fill p1 p2 d1 d2 → AreStepped tells Open p2 p3 d2 d3 → ((i : ℕ) → i < length p3 → IsTurned (part_at p3 i) (part_at p4 i))
    → step_calls 1 (failed_of p1) + step_calls 3 (failed_of p2) + step_calls 5 (failed_of p3) ≡ batch_calls (failed_of p4)
batch_made tells p0 p1 p2 p3 p4 d0 d1 d2 d3 size1 size2 size3 size4 close fill open_gates turned =
    ap₂ (λ m n. m + n)
    (ap₂ (λ m n. m + n) (same_calls 1 3 p1 p4 (omega arith) (size4 ∙ size3 ∙ size2) first) (same_calls 3 5 p2 p4 (omega arith) (size4 ∙ size3) second))
    (same_calls 5 7 p3 p4 (omega arith) size4 third) where
      third : (i : ℕ) → i < length p3 → Later 7 (part_at p3 i).failed (part_at p4 i).failed
      third i below = no_later 7 (part_at p3 i).failed (part_at p4 i).failed (ap (λ (p : Saving). p.failed) (turned i below).part)

      second : (i : ℕ) → i < length p2 → Later 5 (part_at p2 i).failed (part_at p4 i).failed
      second i below = later_still 5 7 (part_at p2 i).failed (part_at p3 i).failed (part_at p4 i).failed (omega arith) (step_later tells Open p2 p3 d2 d3 open_gates i below) (third i (subst (λ n. i < n) (sym size3) below))

      first : (i : ℕ) → i < length p1 → Later 3 (part_at p1 i).failed (part_at p4 i).failed
      first i below = later_still 3 5 (part_at p1 i).failed (part_at p2 i).failed (part_at p4 i).failed (omega arith) (step_later tells Fill p1 p2 d1 d2 fill i below) (second i (subst (λ n. i < n) (sym size2) below))
