-- A text before its first event. Only proofs need these.
use Rattle.std.specs.Prelude.{◌≡◌, ℕ, ◌<◌, Bool, true, false, List, ◌++◌, length, slice_get, Option, Some, None}
use Rattle.std.specs.Io.KnownBytes.{Consumes}
use Rattle.config.specs.Plans.{PlansValue}
use Rattle.settings.specs.Settings.{Settings}
use Rattle.settings.specs.declared.settings.CircuitConfig.{CircuitConfig}
use Rattle.lease_disk.specs.Crash.{formatted_region}
use Rattle.lease_disk.specs.Device.{Device}
use Rattle.lease_disk.specs.Model.{ModelDiskValue, failing_call_of, disk_region}
use Rattle.lease_disk.specs.Region.{Region, IsClean}
use Rattle.world.specs.Alone.{Setup}
use Rattle.world.specs.Start.{Opening, setup_in}
use Rattle.lab_engine.specs.Lab.{Output, first_machines, lab_from, lab_output, output_from}
use Rattle.streams.specs.Lines.{lines_of}

-- A region that can be read, of which no byte is unsynced.
pub record IsReady (region : Region) : Type 0 where
  pub readable : region.readable ≡ true
  pub clean : IsClean region

abbrev pub AreReady : ℕ → (ℕ → Region) → Type 0
AreReady count regions = (q : ℕ) → q < count → IsReady (regions q)

-- each circuit's region is one of the first
abbrev pub AreWithin : Settings → ℕ → Type 0
AreWithin settings count = (c : ℕ) (circuit : CircuitConfig) → slice_get settings.circuits c ≡ Some circuit → circuit.region < count

-- Each circuit's region is one of the disk's, which are all ready.
pub record IsDiskReadyFor (settings : Settings) (disk : ModelDiskValue) : Type 0 where
  pub regions : AreWithin settings (length disk.regions)
  pub ready : AreReady (length disk.regions) (disk_region disk)

-- The disk has as many regions as before, which are all ready.
pub record StaysReady (old new : ModelDiskValue) : Type 0 where
  pub regions : length new.regions ≡ length old.regions
  pub ready : AreReady (length new.regions) (disk_region new)

-- Every region was just formatted, and no call fails.
pub record IsDiskFormatted (disk : ModelDiskValue) : Type 0 where
  pub formatted : (q : ℕ) → q < length disk.regions → disk_region disk q ≡ formatted_region
  pub sound : (q : ℕ) → q < length disk.regions → failing_call_of disk q ≡ 0

-- This is what an opening finds of a region: its bytes, and the call that fails.
pub record IsOpening (device : Device) (region : ℕ) (opening : Opening) : Type 0 where
  pub byte : (i : ℕ) → i < 32768 → opening.byte i ≡ (device.region region).byte i
  pub move_fault : opening.move_fault ≡ device.failing_call region

-- each circuit's opening finds this
pub record AreOver (plans : PlansValue) (quota : ℕ) (device : Device) (openings : ℕ → Opening) : Type 0 where
  pub each : (c : ℕ) (setup : Setup) → setup_in plans quota c ≡ Some setup → IsOpening device setup.part.region (openings c)

-- A line that is no event was applied: the openings are over the new device.
abbrev pub ArePrepared : PlansValue → ℕ → Device → Option (ℕ → Opening) → Type 0
ArePrepared plans quota device None = ⊥
ArePrepared plans quota device (Some openings) = AreOver plans quota device openings

-- the output for these lines, by whether they begin with an event
abbrev pub output_by : Bool → PlansValue → ℕ → ℕ → (ℕ → Opening) → List (List ℕ) → Output
output_by false plans quota number openings lines = output_from plans quota number openings lines
output_by true plans quota number openings lines = lab_from plans quota number (first_machines plans quota openings) lines

-- The lines before the one with this number were read, none of which is an event, and what is known of
-- the rest of the text. `begun` is whether it begins with an event.
pub record PreparedSoFar (plans : PlansValue) (quota number : ℕ) (begun : Bool) (given left : Option (List ℕ)) (device : Device) (Known : List ℕ → Type 0) : Type 0 where
  pub openings : ℕ → Opening
  pub over : AreOver plans quota device openings
  pub read : List ℕ
  pub consumed : Consumes given left read
  pub whole : (rest : List ℕ) → Known rest → lab_output plans quota (read ++ rest) ≡ output_by begun plans quota number openings (lines_of rest)
