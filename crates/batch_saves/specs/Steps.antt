-- What the steps of a batch make of one part and of its region.
use Rattle.std.specs.Prelude.{◌≡◌, ◌≢◌, ℕ, ◌+◌, ◌-◌, ◌==◌, ◌<◌, ◌≤◌, Bool, true, false, if◌then◌else◌, List, length}
use Rattle.lease_disk.specs.declared.content.Content.{Content}
use Rattle.lease_disk.specs.declared.format2.steps.SaveStep.{SaveStep}
use Rattle.lease_disk.specs.declared.format2.steps.SaveStep.TheVariants.{Close, Fill, Open}
use Rattle.lease_disk.specs.declared.marks.Mark.{Mark}
use Rattle.lease_disk.specs.declared.saving.Saving.{Saving}
use Rattle.lease_disk.specs.Keys.{HasKey}
use Rattle.lease_disk.specs.Region.{IsTorn, synced, written}
use Rattle.lease_disk.specs.Save.{mark_at}
use Rattle.lease_disk.specs.SaveSteps.{IsWritable, bytes_of, marks_after, place_of, saved_half}
use Rattle.lease_disk.specs.Device.{Device, is_in}
use Rattle.batch_saves.specs.Batch.{part_at}
use Rattle.batch_saves.specs.Seen.{Seen, seen}

-- which of the six calls of a save is the write of a step; its sync is the next one
abbrev pub call_of : SaveStep → ℕ
call_of Close = 1
call_of Fill = 3
call_of Open = 5

-- what is saved in a slot
pub record Change : Type 0 where
  pub slot : ℕ
  pub mark : Mark
  pub clock : ℕ
  pub content : Content

abbrev pub change_of : Saving → Change
change_of p = record { slot = p.slot; mark = mark_at p.marks p.slot; clock = p.clock; content = p.content }

abbrev pub place_in : SaveStep → Change → ℕ
place_in step c = place_of step c.slot c.mark

abbrev pub bytes_in : SaveStep → Change → List ℕ
bytes_in step c = bytes_of step c.mark (saved_half c.mark c.clock c.content)

-- the write of a step, of a part that was still saving
pub record IsWritePart (tells : Bool) (step : SaveStep) (c : Change) (fails : Bool) (now : ℕ) (old new : Seen) : Type 0 where
  pub failed : now ≡ (if fails then call_of step else 0)
  pub ok : tells ≡ true → fails ≡ false → new.region ≡ written (place_in step c) (bytes_in step c) old.region
  pub err : tells ≡ true → fails ≡ true → IsTorn (place_in step c) (length (bytes_in step c)) old.region new.region
  pub answer : tells ≡ true → fails ≡ (old.failing_call == 1)
  pub failing_call : tells ≡ true → new.failing_call ≡ old.failing_call - 1
  pub failures : new.failures ≡ (if fails then old.failures + 1 else old.failures)
  pub key : HasKey c.content
  pub clock : c.clock ≤ 1099511627775
  pub size : length (saved_half c.mark c.clock c.content) ≡ 256

-- the sync of a step, of a part that was still saving
pub record IsSyncPart (tells : Bool) (step : SaveStep) (fails : Bool) (now : ℕ) (old new : Seen) : Type 0 where
  pub failed : now ≡ (if fails then call_of step + 1 else 0)
  pub region : tells ≡ true → new.region ≡ (if fails then old.region else synced old.region)
  pub failing_call : tells ≡ true → new.failing_call ≡ old.failing_call - 1
  pub failures : new.failures ≡ (if fails then old.failures + 1 else old.failures)

-- the write of a step: of a part that failed before nothing
pub record IsWriteOf (tells : Bool) (step : SaveStep) (c : Change) (was now : ℕ) (old new : Seen) : Type 0 where
  pub out : was ≢ 0 → (now ≡ was) × (new ≡ old)
  pub still : was ≡ 0 → (fails : Bool) × IsWritePart tells step c fails now old new

-- and the part stays as it was but for what failed
pub record IsWrittenPart (tells : Bool) (step : SaveStep) (was now : Saving) (old new : Seen) : Type 0 where
  pub part : now ≡ record was { failed = now.failed }
  pub write : IsWriteOf tells step (change_of was) was.failed now.failed old new

-- the sync of a step: of a part that failed before nothing
pub record IsSyncOf (tells : Bool) (step : SaveStep) (fails : Bool) (was now : ℕ) (old new : Seen) : Type 0 where
  pub out : was ≢ 0 → (now ≡ was) × (new ≡ old)
  pub still : was ≡ 0 → IsSyncPart tells step fails now old new

pub record IsSyncedPart (tells : Bool) (step : SaveStep) (fails : Bool) (was now : Saving) (old new : Seen) : Type 0 where
  pub part : now ≡ record was { failed = now.failed }
  pub sync : IsSyncOf tells step fails was.failed now.failed old new

-- these are the regions of the parts that are still saving
pub record AreSaving (parts : List Saving) (regions : List ℕ) : Type 0 where
  pub each : (i : ℕ) → i < length parts → (part_at parts i).failed ≡ 0 → is_in regions (part_at parts i).region ≡ true
  pub only : (q : ℕ) → is_in regions q ≡ true → (i : ℕ) × ((i < length parts) × ((part_at parts i).failed ≡ 0) × ((part_at parts i).region ≡ q))

-- nothing is seen to change but the parts' regions
pub record KeepsOthers (tells : Bool) (parts : List Saving) (old new : Device) : Type 0 where
  pub count : new.count ≡ old.count
  pub reads : new.reads ≡ old.reads
  pub others : (q : ℕ) → ((i : ℕ) → i < length parts → (part_at parts i).region ≢ q) → seen tells new q ≡ seen tells old q

-- what the writes of a step make of each part
abbrev pub AreWritten : Bool → SaveStep → List Saving → List Saving → Device → Device → Type 0
AreWritten tells step was now old new = (i : ℕ) → i < length was → IsWrittenPart tells step (part_at was i) (part_at now i) (seen tells old (part_at was i).region) (seen tells new (part_at was i).region)

-- What the sync of a step makes of each part. It fails for all parts that are still saving, and exactly where
-- it is the call of one of their regions that fails.
pub record AreSynced (tells : Bool) (step : SaveStep) (was now : List Saving) (old new : Device) : Type 0 where
  pub fails : Bool
  pub parts : (i : ℕ) → i < length was → IsSyncedPart tells step fails (part_at was i) (part_at now i) (seen tells old (part_at was i).region) (seen tells new (part_at was i).region)
  pub cause : tells ≡ true → fails ≡ true → (i : ℕ) × ((i < length was) × ((part_at was i).failed ≡ 0) × ((seen tells old (part_at was i).region).failing_call ≡ 1))
  pub quiet : tells ≡ true → fails ≡ false → (i : ℕ) → i < length was → (part_at was i).failed ≡ 0 → (seen tells old (part_at was i).region).failing_call ≢ 1

-- what a whole step makes of one part: a write, then the sync
pub record IsSteppedPart (tells : Bool) (step : SaveStep) (fails : Bool) (was now : Saving) (old new : Seen) : Type 0 where
  pub part : now ≡ record was { failed = now.failed }
  -- after the write
  pub failed : ℕ
  pub between : Seen
  pub write : IsWriteOf tells step (change_of was) was.failed failed old between
  pub sync : IsSyncOf tells step fails failed now.failed between new

-- What a step makes of each part. Its sync fails exactly where it is the call of the region of a part still saving
-- that fails, the second from the start of the step on.
pub record AreStepped (tells : Bool) (step : SaveStep) (was now : List Saving) (old new : Device) : Type 0 where
  pub fails : Bool
  pub parts : (i : ℕ) → i < length was → IsSteppedPart tells step fails (part_at was i) (part_at now i) (seen tells old (part_at was i).region) (seen tells new (part_at was i).region)
  pub cause : tells ≡ true → fails ≡ true → (i : ℕ) × ((i < length was) × ((part_at was i).failed ≡ 0) × ((seen tells old (part_at was i).region).failing_call ≡ 2))
  pub quiet : tells ≡ true → fails ≡ false → (i : ℕ) → i < length was → (part_at was i).failed ≡ 0 → (seen tells old (part_at was i).region).failing_call ≢ 2

-- what the writes of a step need of the parts, on a device with so many regions
abbrev pub AreWritable : Bool → ℕ → List Saving → Type 0
AreWritable tells count parts = (i : ℕ) → i < length parts → IsWritable tells count (part_at parts i)

-- what failed before this call of the saves
abbrev pub FailedBefore : ℕ → List Saving → Type 0
FailedBefore n parts = (i : ℕ) → i < length parts → (part_at parts i).failed < n

abbrev pub is_saving : Saving → Bool
is_saving p = p.failed == 0

-- after the steps: the marks of a part that was saved
pub record IsTurned (was now : Saving) : Type 0 where
  pub part : now ≡ record was { marks = now.marks }
  pub kept : was.failed ≢ 0 → now.marks ≡ was.marks
  pub after : was.failed ≡ 0 → (mark_at was.marks was.slot).sequence ≤ 2 → now.marks ≡ marks_after was.marks was.slot
  pub all : was.failed ≡ 0 → length was.marks.slots ≡ 32
