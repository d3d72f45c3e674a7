-- What a device that tells has of one region, and what any device counts of it.
use Rattle.std.specs.Prelude.{◌≡◌, ◌≢◌, ℕ, Bool, true, false}
use Rattle.lease_disk.specs.Device.{Device}
use Rattle.lease_disk.specs.Region.{Region}

pub record Seen : Type 0 where
  pub region : Region
  pub failing_call : ℕ
  pub failures : ℕ

abbrev pub unknown : Region
unknown = record { byte = λ i. 0; unsynced = λ i. false; readable = true }

abbrev pub seen : Bool → Device → ℕ → Seen
seen true device r = record { region = device.region r; failing_call = device.failing_call r; failures = device.failures r }
seen false device r = record { region = unknown; failing_call = 0; failures = device.failures r }

-- nothing is seen to change but this region
pub record KeepsBeside (tells : Bool) (r : ℕ) (old new : Device) : Type 0 where
  pub count : new.count ≡ old.count
  pub reads : new.reads ≡ old.reads
  pub others : (q : ℕ) → q ≢ r → seen tells new q ≡ seen tells old q
