-- A device over a file: how long that is, how many regions it has and how it was called. What it holds is not told.
use Rattle.std.specs.Prelude.{ℕ, ◌/◌, ◌||◌, min, Bool, true, false, List, [], Result, is_ok, if◌then◌else◌, replicate, slice_index_or}
use Rattle.lease_disk.specs.Device.{Device, is_in}
use Rattle.lease_disk.specs.Failures.{count_in}
use Rattle.lease_disk.specs.Region.{Region}

pub record FileDiskValue : Type 0 where
  -- how many bytes the file had when it was opened, as the system said, or was lengthened to then
  pub length : ℕ
  pub regions : ℕ
  pub reads : ℕ
  pub writes : ℕ
  -- the regions whose calls returned a fault, the last one first
  pub failures : List ℕ
  -- of each region, whether what a read gives may not be on the disk, although no write since would say so
  pub doubts : List Bool

-- how many regions are whole in a file of so many bytes, and at most 1024
abbrev pub whole_regions : ℕ → ℕ
whole_regions length = min (length / 32768) 1024

-- each region of a file is
unfoldable pub all_in_doubt : List Bool
all_in_doubt = replicate 1024 true

-- whether a region is in doubt by such a list; one past its end is
abbrev pub in_doubt : List Bool → ℕ → Bool
in_doubt doubts region = slice_index_or doubts region true

-- a device over a file of so many bytes that was not called yet: an earlier program may have left any region in doubt
abbrev pub uncalled : ℕ → FileDiskValue
uncalled length = record { length = length; regions = whole_regions length; reads = 0; writes = 0; failures = []; doubts = all_in_doubt }

-- stands for a region of which nothing is told
abbrev pub untold : Region
untold = record { byte = λ i. 0; unsynced = λ i. false; readable = false }

-- the device as the contracts of every device see it
abbrev pub device_of : FileDiskValue → Device
device_of disk = record { count = disk.regions; region = λ r. untold; failing_call = λ r. 0; reads = disk.reads; writes = disk.writes; failures = count_in disk.failures }

abbrev pub doubt_of : FileDiskValue → ℕ → Bool
doubt_of disk = in_doubt disk.doubts

-- these regions are in doubt as well
abbrev pub or_listed : List ℕ → (ℕ → Bool) → ℕ → Bool
or_listed regions doubt q = is_in regions q || doubt q

-- a fault of a call that names these regions puts each of them in doubt
abbrev pub doubt_after : {T E : Type 0} → List ℕ → Result T E → (ℕ → Bool) → ℕ → Bool
doubt_after regions result doubt q = if is_ok result then doubt q else or_listed regions doubt q
