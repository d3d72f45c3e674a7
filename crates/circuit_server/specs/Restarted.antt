-- What a restart makes of a circuit and of its region.
use Rattle.std.specs.Prelude.{◌≡◌, ℕ, Bool, true, false, Option, IfSome}
use Rattle.config.specs.CircuitPart.{CircuitPart}
use Rattle.lease_disk.specs.Device.{Device, OthersStaySettled}
use Rattle.circuit_server.specs.CircuitServerValue.{IsReadyFor, OpenCircuitValue, leases_of}
use Rattle.circuit_server.specs.Leases.{IsRegionMigrated, counts_of, found_leases}

-- Where the device tells: the leases are those that the region held, an open circuit's region can be saved to, and one of
-- format 1 is moved to format 2.
pub record IsRestarted (tells : Bool) (part : CircuitPart) (state : Option OpenCircuitValue) (was later : Device) : Type 0 where
  pub leases : tells ≡ true → leases_of later.region (record { part = part; state = state }) ≡ found_leases was.region was.failing_call part
  pub ready : tells ≡ true → IsReadyFor (later.region part.region) state
  pub region : tells ≡ true → IsRegionMigrated (counts_of part) (was.failing_call part.region) (was.region part.region) (later.region part.region)

-- Where a circuit is open, its region is settled: what was read of it is on the disk. Each other region that was settled still is.
pub record SettlesOne (region : ℕ) (state : Option OpenCircuitValue) (old new : ℕ → Bool) : Type 0 where
  pub settled : IfSome state (λ o. new region ≡ false)
  pub stay : OthersStaySettled region old new
