-- What a restart of these circuits needs, and what it leaves. No public call speaks of this.
use Rattle.std.specs.Prelude.{◌≡◌, ℕ, ◌+◌, ◌*◌, ◌≤◌, Bool, true, List, length, map, Option, All}
use Rattle.lease_disk.specs.Device.{Device}
use Rattle.timers.specs.Deadlines.{DeadlinesValue}
use Rattle.config.specs.CircuitPart.{CircuitPart, IsPart}
use Rattle.config.specs.Topology.{RegionsDiffer}
use Rattle.circuit_server.specs.CircuitServerValue.{HasFoundBook, HasItsPools, HasSettledRegion, IsReady, OpenCircuitValue, leases_of}
use Rattle.circuit_server.specs.Leases.{found_leases}
use Rattle.dispatch.specs.Deadlines.{AreSetAnew}
use Rattle.dispatch.specs.Regions.{AreRegionsMigrated, AreSynced, HasRegions, KeepsOthers}
use Rattle.dispatch.specs.ServerValue.{AreReady, BeginsAsFound, HaveSettledRegions, HoldsDeadlines, ServerValue, leases_in, with_states}

-- Each circuit has a region of its own on the device, and of one that can be read no byte is unsynced.
pub record CanRestart (tells : Bool) (parts : List CircuitPart) (device : Device) : Type 0 where
  pub regions : HasRegions parts device.count
  pub each : All IsPart parts
  pub differ : RegionsDiffer parts
  pub synced : tells ≡ true → AreSynced parts device.region

-- Each circuit has what its region held, which was read and is on the disk where the circuit is open.
pub record AreRestarted (tells : Bool) (parts : List CircuitPart) (states : List (Option OpenCircuitValue)) (old new : Device) (doubt : ℕ → Bool) : Type 0 where
  pub pools : All HasItsPools (with_states parts states)
  pub found : All HasFoundBook (with_states parts states)
  pub leases : tells ≡ true → map (leases_of new.region) (with_states parts states) ≡ map (found_leases old.region old.failing_call) parts
  pub ready : tells ≡ true → All (IsReady new.region) (with_states parts states)
  pub regions : tells ≡ true → AreRegionsMigrated parts old new
  pub settled : All (HasSettledRegion doubt) (with_states parts states)
  pub least : old.reads + length parts ≤ new.reads

-- Regions of no circuit stay, and the device was called so often at most.
pub record IsRestartOf (tells : Bool) (parts : List CircuitPart) (old new : Device) : Type 0 where
  pub others : tells ≡ true → KeepsOthers parts old new
  pub count : new.count ≡ old.count
  pub reads : new.reads ≤ old.reads + 5 * length parts
  pub writes : new.writes ≤ old.writes + 4 * length parts

-- Each deadline is until when its slot is held, and no entry was looked at.
pub record IsTableAnew (old new : DeadlinesValue) (states : List (Option OpenCircuitValue)) : Type 0 where
  pub held : HoldsDeadlines new states
  pub anew : AreSetAnew new states
  pub examined : new.examined ≡ old.examined

-- A server that began with what the regions of these circuits held.
pub record IsOpened (tells : Bool) (parts : List CircuitPart) (server : ServerValue) (old new : Device) (doubt : ℕ → Bool) : Type 0 where
  pub leases : tells ≡ true → leases_in new.region server ≡ map (found_leases old.region old.failing_call) parts
  pub ready : tells ≡ true → AreReady new.region server
  pub deadlines : AreSetAnew server.deadlines server.states
  pub found : BeginsAsFound server
  pub large : HasRegions parts new.count
  pub regions : tells ≡ true → AreRegionsMigrated parts old new
  pub settled : HaveSettledRegions doubt server
  pub least : old.reads + length parts ≤ new.reads
