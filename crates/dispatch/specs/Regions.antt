-- The regions of all circuits on a device.
use Rattle.std.specs.Prelude.{◌≡◌, ◌≢◌, ℕ, ◌<◌, true, List, All}
use Rattle.lease_disk.specs.Device.{Device}
use Rattle.lease_disk.specs.Region.{Region, IsClean}
use Rattle.config.specs.CircuitPart.{CircuitPart}
use Rattle.circuit_server.specs.Leases.{IsRegionMigrated, counts_of}

-- each circuit has its region
abbrev pub HasRegions : List CircuitPart → ℕ → Type 0
HasRegions parts count = All (λ part. part.region < count) parts

-- what a restart does to the region of each circuit
abbrev pub AreRegionsMigrated : List CircuitPart → Device → Device → Type 0
AreRegionsMigrated parts old new = All (λ part. IsRegionMigrated (counts_of part) (old.failing_call part.region) (old.region part.region) (new.region part.region)) parts

-- regions of no circuit stay as they are
pub record KeepsOthers (parts : List CircuitPart) (old new : Device) : Type 0 where
  pub region : (r : ℕ) → All (λ part. part.region ≢ r) parts → new.region r ≡ old.region r
  pub failing_call : (r : ℕ) → All (λ part. part.region ≢ r) parts → new.failing_call r ≡ old.failing_call r

-- of a circuit's region that can be read no byte is unsynced
abbrev pub AreSynced : List CircuitPart → (ℕ → Region) → Type 0
AreSynced parts regions = All (λ part. (regions part.region).readable ≡ true → IsClean (regions part.region)) parts
