-- The states of a world that was just opened: how each circuit is set up, and what it begins with.
use Rattle.std.specs.Prelude.{◌≡◌, ℕ, Bool, List, [], length, Option, Some, option_map, slice_index_or, true, false, if◌then◌else◌}
use Rattle.config.specs.CircuitPart.{part_in}
use Rattle.config.specs.Plans.{PlansValue}
use Rattle.events.specs.Seen.{Seen, seen_by}
use Rattle.events.specs.declared.event.Event.{Event}
use Rattle.circuit_server.specs.Leases.{recovered_book}
use Rattle.lease_disk.specs.Device.{Device}
use Rattle.lease_disk.specs.Layout.{is_format2}
use Rattle.lease_disk.specs.Region.{IsClean, Region}
use Rattle.world.specs.Alone.{Alone, New, Old, Setup, setup_of, start, unsent}
use Rattle.world.specs.Headline.{CircuitState, Represents, is_on_at, plans_at}

-- which plans have the circuit of this index, and whether the first does, which is in force at the start
abbrev pub members_of : PlansValue → ℕ → List Bool
members_of plans c = slice_index_or plans.members c []

abbrev pub begins_on : PlansValue → ℕ → Bool
begins_on plans c = slice_index_or (members_of plans c) 0 false

-- How the circuit of this index is set up, where the network keeps so many datagrams; None where there is
-- no such circuit.
abbrev pub setup_in : PlansValue → ℕ → ℕ → Option Setup
setup_in plans quota c = option_map (λ part. setup_of quota part (begins_on plans c)) (part_in plans.union c)

-- what it sees of a run from the start
abbrev pub seen_in : PlansValue → ℕ → List Event → List Seen
seen_in plans c events = seen_by (members_of plans c) c (begins_on plans c) events

-- What a circuit's opening finds: the bytes of its region, and which call of the device fails where it is moved to
-- format 2.
pub record Opening : Type 0 where
  pub byte : ℕ → ℕ
  pub move_fault : ℕ

abbrev pub opening_of : Region → ℕ → Opening
opening_of region fault = record { byte = region.byte; move_fault = fault }

-- over this device
abbrev pub opening_in : Device → Setup → Opening
opening_in device setup = opening_of (device.region setup.part.region) (device.failing_call setup.part.region)

-- the circuit's region can be read
abbrev pub IsReadable : Device → Setup → Type 0
IsReadable device setup = (device.region setup.part.region).readable ≡ true

-- A circuit's machine at its start, with what the opening finds.
abbrev pub opened : Setup → Opening → Alone
opened setup opening = start setup.begins_on opening.move_fault (recovered_book setup.part opening.byte) (is_format2 opening.byte)

-- The machine of a circuit whose region has these bytes and cannot be read: it is closed, until a restart reads them.
abbrev pub unread : Setup → (ℕ → ℕ) → Alone
unread setup byte = record (unsent setup.begins_on) { kept = recovered_book setup.part byte; format = if is_format2 byte then New else Old }

-- Every circuit's state represents its machine at the start. Of one whose region cannot be read this is said if no byte of
-- the region is unsynced.
pub record Starts (plans : PlansValue) (quota : ℕ) (device : Device) (states : List CircuitState) : Type 0 where
  pub count : length states ≡ length plans.union.circuits
  pub members : (c : ℕ) → plans_at c states ≡ members_of plans c
  pub on : (c : ℕ) → is_on_at c states ≡ begins_on plans c
  pub each : (c : ℕ) (setup : Setup) → setup_in plans quota c ≡ Some setup → IsReadable device setup → Represents c states setup (opened setup (opening_in device setup))
  pub closed : (c : ℕ) (setup : Setup) → setup_in plans quota c ≡ Some setup → (device.region setup.part.region).readable ≡ false → IsClean (device.region setup.part.region)
      → Represents c states setup (unread setup (device.region setup.part.region).byte)
