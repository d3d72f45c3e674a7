-- A write, then the sync of a step.
use Rattle.std.proofs.Common.{◌≡◌, ◌≢◌, ℕ, ◌-◌, ◌<◌, ◌==◌, if◌then◌else◌, Bool, true, false, List, length, refl, sym, ap, ◌∙◌, subst, arith}
use Rattle.lease_disk.specs.declared.format2.steps.SaveStep.{SaveStep}
use Rattle.lease_disk.specs.declared.format2.steps.SaveStep.TheVariants.{Close, Fill, Open}
use Rattle.lease_disk.specs.declared.saving.Saving.{Saving}
use Rattle.lease_disk.specs.Device.{Device}
use Rattle.batch_saves.specs.Batch.{AreApart, part_at}
use Rattle.batch_saves.specs.Seen.{Seen, seen}
use Rattle.lease_disk.specs.SaveSteps.{IsWritable}
use Rattle.batch_saves.specs.Steps.{AreStepped, AreSynced, AreWritable, AreWritten, Change, IsSteppedPart, IsSyncOf, IsWriteOf, KeepsOthers, call_of, change_of}

-- ---- parts that stay as they were but for what failed

abbrev pub AreSame : List Saving → List Saving → Type 0
AreSame was now = (i : ℕ) → i < length was → part_at now i ≡ record (part_at was i) { failed = (part_at now i).failed }

module _ (was now : List Saving) (size : length now ≡ length was) (same : AreSame was now) where
  within : (i : ℕ) → i < length now → i < length was
  within i below = subst (λ n. i < n) size below

  pub same_region : (i : ℕ) → i < length was → (part_at now i).region ≡ (part_at was i).region
  same_region i below = ap (λ (p : Saving). p.region) (same i below)

  pub apart_after : AreApart was → AreApart now
  apart_after apart i j before below equal =
      apart i j before (within j below) (sym (same_region i (let second = within j below in omega (arith, second, before))) ∙ equal ∙ same_region j (within j below))

  pub writable_after : (tells : Bool) (count later : ℕ) → later ≡ count → AreWritable tells count was → AreWritable tells later now
  writable_after tells count later e all i below =
      subst (λ (p : Saving). IsWritable tells later p) (sym (same i (within i below)))
      (let one = all i (within i below) in record { exists = subst (λ n. (part_at was i).region < n) (sym e) one.exists; fits = one.fits; mark = one.mark })

  pub kept_after : (tells : Bool) (old mid new : Device) → KeepsOthers tells was old mid → KeepsOthers tells now mid new → KeepsOthers tells was old new
  kept_after tells old mid new first second = record {
    count = second.count ∙ first.count;
    reads = second.reads ∙ first.reads;
    others = λ q none. second.others q (λ i below equal. none i (within i below) (sym (same_region i (within i below)) ∙ equal)) ∙ first.others q none;
  }

-- ---- a part that is still saving after a write was saving before

call_some : (step : SaveStep) → call_of step ≢ 0
call_some Close e = absurd cc
call_some Fill e = absurd cc
call_some Open e = absurd cc

pub was_saving : (tells : Bool) (step : SaveStep) (c : Change) (was now : ℕ) (old new : Seen) → IsWriteOf tells step c was now old new → now ≡ 0 → was ≡ 0
was_saving tells step c was now old new write zero = by (was == 0) refl where
  by : (b : Bool) → (was == 0) ≡ b → was ≡ 0
  by true e = grind (arith, e)
  by false e =
      let some : was ≢ 0 = λ z. absurd (grind (arith, e, z)) in
      absurd (some (sym (write.out some).0 ∙ zero))

-- ---- the whole step

module _ (tells : Bool) (step : SaveStep) (was mid now : List Saving) (old between new : Device)
    (size : length mid ≡ length was) (written : AreWritten tells step was mid old between) (synced : AreSynced tells step mid now between new) where
  pub mid_same : AreSame was mid
  mid_same i below = (written i below).part

  there : (i : ℕ) → i < length was → i < length mid
  there i below = subst (λ n. i < n) (sym size) below

  back : (i : ℕ) → i < length mid → i < length was
  back i below = subst (λ n. i < n) size below

  region_is : (i : ℕ) → i < length was → (part_at mid i).region ≡ (part_at was i).region
  region_is = same_region was mid size mid_same

  stepped_part : (i : ℕ) → i < length was → IsSteppedPart tells step synced.fails (part_at was i) (part_at now i) (seen tells old (part_at was i).region) (seen tells new (part_at was i).region)
  stepped_part i below =
      let first = written i below in
      let second = synced.parts i (there i below) in
      record {
        part = second.part ∙ ap (λ (p : Saving). record p { failed = (part_at now i).failed }) first.part;
        failed = (part_at mid i).failed;
        between = seen tells between (part_at was i).region;
        write = first.write;
        sync = subst (λ r. IsSyncOf tells step synced.fails (part_at mid i).failed (part_at now i).failed (seen tells between r) (seen tells new r)) (region_is i below) second.sync;
      }

  -- the failing_call before the write, of a part that is still saving after it
  cause_at : (i : ℕ) → i < length was → tells ≡ true → (part_at mid i).failed ≡ 0 → (seen tells between (part_at mid i).region).failing_call ≡ 1
      → (i : ℕ) × ((i < length was) × ((part_at was i).failed ≡ 0) × ((seen tells old (part_at was i).region).failing_call ≡ 2))
  cause_at i below t zero one =
      let first = (written i below).write in
      let before = was_saving tells step (change_of (part_at was i)) (part_at was i).failed (part_at mid i).failed (seen tells old (part_at was i).region) (seen tells between (part_at was i).region) first zero in
      let burnt = (first.still before).1.failing_call t in
      let is : (seen tells between (part_at was i).region).failing_call ≡ 1 = sym (ap (λ r. (seen tells between r).failing_call) (region_is i below)) ∙ one in
      (i, (below, before, omega (arith, burnt, is)))

  quiet_at : (i : ℕ) → i < length was → tells ≡ true → (part_at was i).failed ≡ 0 → (seen tells old (part_at was i).region).failing_call ≡ 2
      → ((part_at mid i).failed ≡ 0 → (seen tells between (part_at mid i).region).failing_call ≢ 1) → ⊥
  quiet_at i below t zero two none =
      let write = (written i below).write.still zero in
      let fine : write.0 ≡ false = write.1.answer t ∙ ap (λ n. n == 1) two in
      let after : (part_at mid i).failed ≡ 0 = write.1.failed ∙ ap (λ b. if b then call_of step else 0) fine in
      none after (ap (λ r. (seen tells between r).failing_call) (region_is i below) ∙ write.1.failing_call t ∙ ap (λ n. n - 1) two)

  pub stepped : AreStepped tells step was now old new
  stepped = record {
    fails = synced.fails;
    parts = stepped_part;
    cause = λ t fails. let found = synced.cause t fails in cause_at found.0 (back found.0 found.1.0) t found.1.1 found.1.2;
    quiet = λ t fails i below zero two. quiet_at i below t zero two (λ after. synced.quiet t fails i (there i below) after);
  }
