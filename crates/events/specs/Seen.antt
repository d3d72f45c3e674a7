-- What one circuit sees of the events of a whole run.
use Rattle.std.specs.Prelude.{ℕ, Bool, true, false, List, [], ◌∷◌, Option, Some, None, option_map, ◌==◌, if◌then◌else◌, slice_get, slice_index_or}
use Rattle.std.specs.List.{cons_option}
use Rattle.std.specs.Option.{unwrap_or}
use Rattle.types.specs.declared.dest.Proto.{Proto}
use Rattle.lease_disk.specs.declared.image.Image.TheVariants.{Byte}
use Rattle.events.specs.Batch.{is_batch, part_fault, part_of}
use Rattle.events.specs.declared.batch.BatchPart.{BatchPart}
use Rattle.events.specs.declared.comeback.Comeback.{Comeback}
use Rattle.events.specs.declared.event.Event.{Event}
use Rattle.events.specs.declared.event.Event.TheVariants as event

-- An event as its circuit sees it. No circuit is named in it.
pub data Seen : Type 0 where
  -- a client's frame reaches the relay
  Frame : Proto → List ℕ → Seen
  -- the j-th datagram towards the server is delivered, at a moment, with a fault of the disk
  Up : ℕ → ℕ → ℕ → Seen
  -- the j-th datagram towards the relay is delivered
  Down : ℕ → Seen
  -- the moment passes
  Tick : ℕ → Seen
  -- the server restarts, and the circuit's region comes back so
  Restart : Comeback → Seen
  -- the circuit is turned on or off
  Turn : Bool → Seen

-- How circuit c's region comes back, by the list of a restart. Past the end of the list each unsynced byte is 0, and no
-- call fails.
abbrev pub comeback_at : ℕ → List Comeback → Comeback
comeback_at c comebacks = slice_index_or comebacks c (record { image = Byte 0; move_fault = 0 })

-- a circuit that is on or not sees a reload where that turns it
abbrev pub turn_to : Bool → Bool → Option Seen
turn_to true false = Some (Turn false)
turn_to false true = Some (Turn true)
turn_to on next = None

-- a circuit's part of a batch is a delivery at the server
abbrev pub seen_part : ℕ → ℕ → Option BatchPart → Option Seen
seen_part now sync part = option_map (λ (p : BatchPart). Up p.number now (part_fault sync p.fault)) part

-- What circuit c, which is on or not, and which these plans have, sees of an event: what names it, every tick, how its own
-- region comes back at every restart, and what turns it, but no stray.
abbrev pub seen_of : List Bool → ℕ → Bool → Event → Option Seen
seen_of plans c on (event.Frame circuit proto bytes) = if circuit == c then Some (Frame proto bytes.now) else None
seen_of plans c on (event.Up circuit j now fault) = if circuit == c then Some (Up j now fault) else None
seen_of plans c on (event.Batch now sync parts) = if is_batch parts.now then seen_part now sync (part_of c parts.now) else None
seen_of plans c on (event.Down circuit j) = if circuit == c then Some (Down j) else None
seen_of plans c on (event.Tick now) = Some (Tick now)
seen_of plans c on (event.Restart comebacks) = Some (Restart (comeback_at c comebacks.now))
seen_of plans c on (event.Reload plan) = turn_to on (unwrap_or (slice_get plans plan) on)
seen_of plans c on stray = None

-- whether it is on after an event: where another plan came into force, by whether that has it
abbrev pub is_on_after : List Bool → Bool → Event → Bool
is_on_after plans on (event.Reload plan) = unwrap_or (slice_get plans plan) on
is_on_after plans on event = on

-- what it sees of a run, in order
unfoldable pub seen_by : List Bool → ℕ → Bool → List Event → List Seen
seen_by plans c on [] = []
seen_by plans c on (e ∷ events) = cons_option (seen_of plans c on e) (seen_by plans c (is_on_after plans on e) events)

-- the circuit that an event names
abbrev pub named_by : Event → Option ℕ
named_by (event.Frame circuit proto bytes) = Some circuit
named_by (event.Up circuit j now fault) = Some circuit
named_by (event.Down circuit j) = Some circuit
named_by event = None

-- the plan that an event puts in force
abbrev pub reload_of : Event → Option ℕ
reload_of (event.Reload plan) = Some plan
reload_of event = None

abbrev pub is_restart : Event → Bool
is_restart (event.Restart comebacks) = true
is_restart event = false
