-- A device in memory, by its fields.
use Rattle.std.specs.Prelude.{◌≡◌, ◌≢◌, ℕ, ◌||◌, Bool, false, List, [], length, slice_index, slice_index_or}
use Rattle.lease_disk.specs.declared.model_disk.Stored.{Stored}
use Rattle.lease_disk.specs.Device.{Device}
use Rattle.lease_disk.specs.Failures.{count_in}
use Rattle.lease_disk.specs.Region.{Region, is_within}

pub record ModelDiskValue : Type 0 where
  pub regions : List Stored
  pub failing_calls : List ℕ
  pub reads : ℕ
  pub writes : ℕ
  -- the regions whose calls returned a fault, the last one first
  pub failures : List ℕ
  -- how many syncs there were, of one region or several, up to the greatest 32-bit number
  pub syncs : ℕ

abbrev pub region_of : Stored → Region
region_of stored = record { byte = slice_index stored.bytes; unsynced = λ i. slice_index_or stored.unsynced i false; readable = stored.readable }

-- a region that does not exist
abbrev pub absent : Stored
absent = record { bytes = []; unsynced = []; readable = false }

abbrev pub stored_at : List Stored → ℕ → Stored
stored_at regions region = slice_index_or regions region absent

abbrev pub disk_region : ModelDiskValue → ℕ → Region
disk_region disk region = region_of (stored_at disk.regions region)

-- which of a region's writes and syncs from now on fails
abbrev pub failing_call_of : ModelDiskValue → ℕ → ℕ
failing_call_of disk region = slice_index disk.failing_calls region

-- the device as the contracts of every device see it
abbrev pub device_of : ModelDiskValue → Device
device_of disk = record { count = length disk.regions; region = disk_region disk; failing_call = failing_call_of disk; reads = disk.reads; writes = disk.writes; failures = count_in disk.failures }

-- what reads give is what the device has
abbrev pub nothing_in_doubt : ModelDiskValue → ℕ → Bool
nothing_in_doubt disk region = false

-- a region after a write of n bytes that failed
abbrev pub left_in_doubt : ℕ → ℕ → Region → Region
left_in_doubt at n r = record { byte = r.byte; unsynced = λ i. is_within at n i || r.unsynced i; readable = r.readable }

-- the same device but for one region's contents and failing_call
pub record SameBut (region : ℕ) (old new : ModelDiskValue) : Type 0 where
  pub count : length new.regions ≡ length old.regions
  pub others : (q : ℕ) → q ≢ region → stored_at new.regions q ≡ stored_at old.regions q
  pub failing_calls : (q : ℕ) → q ≢ region → failing_call_of new q ≡ failing_call_of old q
  pub reads : new.reads ≡ old.reads
  pub writes : new.writes ≡ old.writes
  pub failures : new.failures ≡ old.failures
  pub syncs : new.syncs ≡ old.syncs
