-- Slots of different regions that are saved together, and which of its calls fails for each.
use Rattle.std.specs.Prelude.{◌≡◌, ◌≢◌, ℕ, ◌+◌, ◌-◌, ◌==◌, ◌<◌, ◌≤◌, min, Bool, true, ◌||◌, nat_le, if◌then◌else◌, List, [], length, map, slice_index_or}
use Rattle.std.specs.List.{count_by, list_any}
use Rattle.types.specs.declared.slot6.Slot6.TheVariants as S6
use Rattle.lease_disk.specs.declared.content.Content.TheVariants.{Six}
use Rattle.lease_disk.specs.declared.saving.Saving.{Saving}
use Rattle.lease_disk.specs.Device.{Device}
use Rattle.lease_disk.specs.Region.{effective}
use Rattle.lease_disk.specs.Save.{CanSave, IsSaveOf}

-- past the last part
abbrev pub no_part : Saving
no_part = record { region = 0; clock = 0; slot = 0; content = Six S6.Free; marks = record { slots = [] }; failed = 0 }

abbrev pub part_at : List Saving → ℕ → Saving
part_at parts i = slice_index_or parts i no_part

abbrev pub regions_of : List Saving → List ℕ
regions_of parts = map (λ p. p.region) parts

-- no two parts have one region
abbrev pub AreApart : List Saving → Type 0
AreApart parts = (i j : ℕ) → i < j → j < length parts → (part_at parts i).region ≢ (part_at parts j).region

-- How the calls of a save count: the writes are its calls 1, 3 and 5, and the shared syncs its calls 2, 4 and 6.

-- which shared sync fails, none where it is 0: the first that is the failing call of one of the regions
abbrev pub shared_fault : List ℕ → ℕ
shared_fault failing_calls = if list_any (λ f. f == 2) failing_calls then 2 else if list_any (λ f. f == 4) failing_calls then 4 else if list_any (λ f. f == 6) failing_calls then 6 else 0

-- the first of two calls, each 0 for none
abbrev pub first_of : ℕ → ℕ → ℕ
first_of a b = if a == 0 then b else if b == 0 then a else min a b

-- whether a save whose k-th call failed, or none where k is 0, came to its n-th call
abbrev pub comes_to : ℕ → ℕ → Bool
comes_to n k = k == 0 || nat_le n k

-- the calls of one step, by what failed in the end: a write for each part that came to it, and one sync where any came
-- to it. The write is the n-th call of a save.
abbrev pub step_calls : ℕ → List ℕ → ℕ
step_calls n failed = count_by (comes_to n) failed + (if list_any (comes_to (n + 1)) failed then 1 else 0)

-- and of all three steps
abbrev pub batch_calls : List ℕ → ℕ
batch_calls failed = step_calls 1 failed + step_calls 3 failed + step_calls 5 failed

abbrev pub failed_of : List Saving → List ℕ
failed_of parts = map (λ p. p.failed) parts

-- whether a fault is one of a write; 0 is none
abbrev pub is_write_fault : ℕ → Bool
is_write_fault f = f == 0 || f == 1 || f == 3 || f == 5

-- or of a sync
abbrev pub is_sync_fault : ℕ → Bool
is_sync_fault f = f == 0 || f == 2 || f == 4 || f == 6

abbrev pub failing_calls_of : Device → List Saving → List ℕ
failing_calls_of device parts = map (λ p. device.failing_call p.region) parts

-- what a part has to be before its batch is saved
pub record IsReady (tells : Bool) (device : Device) (p : Saving) : Type 0 where
  pub fresh : p.failed ≡ 0
  pub save : CanSave tells device p

abbrev pub AreReady : Bool → Device → List Saving → Type 0
AreReady tells device parts = (i : ℕ) → i < length parts → IsReady tells device (part_at parts i)

-- What a batch makes of one part and of its region, where this shared sync fails, or none where it is 0: a save whose
-- failing call is the first that fails for the part, be it a write of its own or the shared sync. No call of the
-- region follows it.
pub record IsSavedPart (tells : Bool) (shared : ℕ) (was now : Saving) (old new : Device) : Type 0 where
  pub part : now ≡ record was { marks = now.marks; failed = now.failed }
  pub failed : tells ≡ true → now.failed ≡ first_of (effective 6 (old.failing_call was.region)) shared
  pub most : now.failed ≤ 6
  pub saved : tells ≡ true → IsSaveOf now.failed was.clock was.slot was.content was.marks now.marks (old.region was.region) (new.region was.region)
  pub failing_call : tells ≡ true → new.failing_call was.region ≡ old.failing_call was.region - (if now.failed == 0 then 6 else now.failed)
  pub kept : now.failed ≢ 0 → now.marks ≡ was.marks
  pub failures : new.failures was.region ≡ old.failures was.region + (if now.failed == 0 then 0 else 1)
