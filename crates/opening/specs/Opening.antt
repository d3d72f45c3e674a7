-- The formats in which an opening finds the regions of its circuits.
use Rattle.std.specs.Prelude.{◌≡◌, ◌≤◌, ◌+◌, ◌*◌, ◌==◌, ◌&&◌, ℕ, Bool, false, not, List, Option, Some, None, Result, OnOk, map, nat_lt, if◌then◌else◌}
use Rattle.settings.specs.declared.settings.CircuitConfig.{CircuitConfig}
use Rattle.lease_disk.specs.Device.{Device}
use Rattle.dispatch.specs.ServerValue.{BeginsAsFound, HaveSettledRegions, ServerValue}

-- the byte of a region that says its format; None where there is no such region, or it can't be read
abbrev pub format_of : Device → ℕ → Option ℕ
format_of device region = if nat_lt region device.count && (device.region region).readable then Some ((device.region region).byte 8192) else None

-- of each circuit
abbrev pub formats_of : Device → List CircuitConfig → List (Option ℕ)
formats_of device circuits = map (λ circuit. format_of device circuit.region) circuits

-- of the circuit of this index, if there is one
abbrev pub found_format : Option (Option ℕ) → Option ℕ
found_format None = None
found_format (Some format) = format

-- whether a region was of format 1, which is what any value but 2 means
abbrev pub was_old : Option ℕ → Bool
was_old None = false
was_old (Some format) = not (format == 2)

-- Each open circuit begins with a book that slots of a region mean, and what was read of its own region is on the disk.
pub record BeginsAsSettled (doubt : ℕ → Bool) (server : ServerValue) : Type 0 where
  pub found : BeginsAsFound server
  pub settled : HaveSettledRegions doubt server

-- How often a device is called to open a server of so many circuits: no region is added, and after Ok each was read.
pub record IsCalledToOpen {T E : Type 0} (circuits : ℕ) (result : Result T E) (old new : Device) : Type 0 where
  pub count : new.count ≡ old.count
  pub least : OnOk result (old.reads + circuits ≤ new.reads)
  pub reads : new.reads ≤ old.reads + 6 * circuits
  pub writes : new.writes ≤ old.writes + 4 * circuits
