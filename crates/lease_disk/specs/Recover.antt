-- What recovering a region answers.
use Rattle.std.specs.Prelude.{◌≡◌, ℕ, Bool, ◌||◌, true, false, List, Some, None, Result, Ok, Err}
use Rattle.types.specs.declared.slots.Slots.{Slots}
use Rattle.lease_disk.specs.declared.marks.Marks.{Marks}
use Rattle.lease_disk.specs.declared.half.Half.TheVariants.{First, Second}
use Rattle.lease_disk.specs.declared.recovering.RecoverFault.{RecoverFault}
use Rattle.lease_disk.specs.declared.recovering.RecoverFault.TheVariants.{DiskFault, Damaged}
use Rattle.lease_disk.specs.Layout.{half2, is_format2}
use Rattle.lease_disk.specs.Recovered.{is_counting, recovered}
use Rattle.lease_disk.specs.Region.{Region, one_more_at}
use Rattle.lease_disk.specs.Save.{AreMarks}

-- whether one of a slot's halves counts, in format 2
abbrev pub is_counted : (ℕ → ℕ) → ℕ → Bool
is_counted region s = is_counting (half2 region s First) (half2 region s Second) || is_counting (half2 region s Second) (half2 region s First)

-- the answer for a region of a device that tells its bytes: the slots that they mean, and in format 2 their marks,
-- or that they mean none, where the region can be read; a fault where it cannot
abbrev pub Answers : List ℕ → Region → Result (Slots × Marks) RecoverFault → Type 0
Answers counts r (Ok found) = (r.readable ≡ true) × (recovered counts r.byte ≡ Some found.0) × (is_format2 r.byte ≡ true → AreMarks counts r.byte found.1)
Answers counts r (Err Damaged) = (r.readable ≡ true) × (recovered counts r.byte ≡ None)
Answers counts r (Err DiskFault) = r.readable ≡ false

-- the counts of failures: a fault of the device raises this region's by one, and nothing else does
abbrev pub recover_faults : ℕ → Result (Slots × Marks) RecoverFault → (ℕ → ℕ) → ℕ → ℕ
recover_faults r (Ok found) failures = failures
recover_faults r (Err Damaged) failures = failures
recover_faults r (Err DiskFault) failures = one_more_at r failures
