-- The words of the headline: when the state of a circuit in the world represents the circuit's machine,
-- what a step and a run of the world do, and which frames leave towards a circuit.
use Rattle.std.specs.Prelude.{⊤, ◌≡◌, ℕ, ◌+◌, ◌<◌, ◌≤◌, min, List, [], ◌∷◌, ◌++◌, length, take, slice_get, Bool, Option, Some, None, option_map, true, false, ◌==◌, ◌&&◌, if◌then◌else◌}
use Rattle.std.specs.List.{filter_map}
use Rattle.std.specs.Option.{option_map_or}
use Rattle.std.specs.Result.{is_err}
use Rattle.config.specs.Topology.{Topology, reloaded}
use Rattle.circuit_server.specs.Leases.{IsRegionMigrated, Leases, counts_of}
use Rattle.circuit_server.specs.Server.{Book}
use Rattle.lease_disk.specs.Crash.{crashed}
use Rattle.lease_disk.specs.Region.{Region}
use Rattle.lossy_net.specs.Net.{Datagram}
use Rattle.relay.specs.SentFrame.{SentFrame}
use Rattle.relay.specs.Relays.{CircuitFrame, relayed_up}
use Rattle.events.specs.declared.event.Event.{Event}
use Rattle.events.specs.declared.event.Event.TheVariants as event
use Rattle.events.specs.declared.outcome.Outcome.{Outcome}
use Rattle.events.specs.declared.outcome.Outcome.TheVariants as outcome
use Rattle.world.specs.Alone.{Setup, Alone, Effect, Dropped, Gone, SentUp, SentDown, Framed, Done, alone_step, after_all, found, frames, is_new, writes}
use Rattle.events.specs.Seen.{Seen, Frame, Restart, seen_of, seen_by, named_by, is_on_after, is_restart, reload_of}
use Rattle.events.specs.Stray.{is_stray}
use Rattle.events.specs.Batch.{is_batch, is_named, outcome_of}
use Rattle.events.specs.declared.batch.BatchPart.{BatchPart}
use Rattle.events.specs.declared.batch.PartOutcome.{PartOutcome}
use Rattle.events.specs.declared.batch.PartOutcome.TheVariants as part

-- All that the world has of one circuit: its part of the configuration and the quota, what the network
-- keeps of it, how many of its frames the relay discarded, what its server and its region hold, and which
-- call of the device from now on fails for its region; which plans have it, and whether it is served.
pub record CircuitState : Type 0 where
  pub setup : Setup
  pub plans : List Bool
  pub on : Bool
  pub up : List Datagram
  pub down : List Datagram
  pub discarded : ℕ
  pub leases : Leases
  pub region : Region
  pub failing_call : ℕ

-- A circuit's state shows this machine, set up like this.
pub record Shows (state : CircuitState) (setup : Setup) (a : Alone) : Type 0 where
  pub setup_is : state.setup ≡ setup
  pub on : state.on ≡ a.on
  pub up : state.up ≡ a.up
  pub down : state.down ≡ a.down
  pub book : state.leases.book ≡ a.book
  -- whatever each unsynced byte becomes, a restart finds in the region what the machine finds, and in the same format
  pub restarts : (byte : ℕ) → state.leases.restarts byte ≡ found byte a
  pub formats : (byte : ℕ) → state.leases.is_new byte ≡ is_new a.format byte
  -- an open circuit has no book in doubt
  pub sure : (b : Book) → a.book ≡ Some b → a.doubt ≡ None

-- The state of circuit c represents this machine, set up like this.
pub record Represents (c : ℕ) (states : List CircuitState) (setup : Setup) (a : Alone) : Type 0 where
  pub state : CircuitState
  pub there : slice_get states c ≡ Some state
  pub shows : Shows state setup a

-- which plans have circuit c, and whether it is served
abbrev pub plans_at : ℕ → List CircuitState → List Bool
plans_at c states = option_map_or (λ (state : CircuitState). state.plans) (slice_get states c) []

abbrev pub is_on_at : ℕ → List CircuitState → Bool
is_on_at c states = option_map_or (λ (state : CircuitState). state.on) (slice_get states c) false

-- what circuit c then sees of an event, and of a run
abbrev pub seen_at : ℕ → List CircuitState → Event → Option Seen
seen_at c states e = seen_of (plans_at c states) c (is_on_at c states) e

abbrev pub seen_from : ℕ → List CircuitState → List Event → List Seen
seen_from c states events = seen_by (plans_at c states) c (is_on_at c states) events

-- the frames of circuit c among all that left, in order
abbrev pub frames_to : ℕ → List CircuitFrame → List SentFrame
frames_to c sent = filter_map (λ (one : CircuitFrame). if one.circuit == c then Some one.frame else None) sent

-- the frame of a step's outcome, whose bytes are in `out`
abbrev pub frame_of : Outcome → List ℕ → List CircuitFrame
frame_of (outcome.Framed circuit dest) out = record { circuit = circuit; frame = record { dest = dest; bytes = out } } ∷ []
frame_of o out = []

-- what came of a part of a batch, as if it had come alone
abbrev pub of_part : Option PartOutcome → Outcome
of_part (Some part.Gone) = outcome.Gone
of_part (Some (part.Dropped reason)) = outcome.Dropped reason
of_part (Some (part.SentDown len)) = outcome.SentDown len
of_part None = outcome.NotABatch

-- what came of an event for circuit c: of a batch what came of its part
abbrev pub outcome_at : ℕ → Event → Outcome → Outcome
outcome_at c (event.Batch now sync parts) (outcome.Batched outcomes) = of_part (outcome_of c parts.now outcomes)
outcome_at c e o = o

-- An effect of circuit c's machine as an outcome, with what `out` then holds.
abbrev pub IsOutcome : ℕ → Effect → Outcome → List ℕ → Type 0
IsOutcome c (Dropped reason) o out = (o ≡ outcome.Dropped reason) × (out ≡ [])
IsOutcome c Gone o out = (o ≡ outcome.Gone) × (out ≡ [])
IsOutcome c (SentUp len) o out = (o ≡ outcome.SentUp len) × (out ≡ [])
IsOutcome c (SentDown len) o out = (o ≡ outcome.SentDown len) × (out ≡ [])
IsOutcome c (Framed frame) o out = (o ≡ outcome.Framed c frame.dest) × (out ≡ frame.bytes)
IsOutcome c Done o out = (o ≡ outcome.Done) × (out ≡ [])

-- A step as circuit c sees it: it is the machine's, or, where c sees nothing, no frame leaves towards c.
abbrev pub Answers : ℕ → Setup → Option Seen → Alone → Outcome → List ℕ → Type 0
Answers c setup None a o out = frames_to c (frame_of o out) ≡ []
Answers c setup (Some s) a o out = IsOutcome c (alone_step setup s a).effect o out

abbrev pub after_seen : Setup → Option Seen → Alone → Alone
after_seen setup None a = a
after_seen setup (Some s) a = (alone_step setup s a).next

-- whether the relay of a circuit in this state discards what it sees: a client's frame, while the circuit is on
abbrev pub is_discarded : CircuitState → Seen → Bool
is_discarded state (Frame proto frame) = state.on && is_err (relayed_up state.setup.part proto frame)
is_discarded state seen = false

-- A restart makes of a circuit's region its image, byte for byte; one that then is of format 1 and holds a book is moved.
abbrev pub ComesBack : Seen → CircuitState → CircuitState → Type 0
ComesBack (Restart comeback) old new = IsRegionMigrated (counts_of old.setup.part) comeback.move_fault (crashed comeback.image old.region) new.region
ComesBack seen old new = ⊤

-- What becomes of the rest of a circuit's state, beside what a machine shows of it, with what the circuit sees.
pub record MovesRest (seen : Seen) (old new : CircuitState) : Type 0 where
  -- one more exactly where the relay discards the frame, up to the greatest 32-bit number
  pub discarded : new.discarded ≡ (if is_discarded old seen then min 4294967295 (old.discarded + 1) else old.discarded)
  -- no call of the device is left to fail, where none was
  pub failing_call : old.failing_call ≡ 0 → new.failing_call ≡ 0
  pub region : ComesBack seen old new

abbrev pub region_at : ℕ → List CircuitState → Option Region
region_at c states = option_map (λ (state : CircuitState). state.region) (slice_get states c)

-- What comes of a reload of plan k, by whether there is such a plan, which each circuit says.
pub record IsReloaded (k : ℕ) (old new : List CircuitState) (o : Outcome) (out : List ℕ) : Type 0 where
  pub done : (c : ℕ) (has : Bool) → slice_get (plans_at c old) k ≡ Some has → o ≡ outcome.Done
  pub no_plan : (c : ℕ) → c < length old → slice_get (plans_at c old) k ≡ None → (o ≡ outcome.NoPlan) × (new ≡ old)
  pub silent : (frame_of o out ≡ []) × (out ≡ [])

abbrev pub batch_of : Event → Option (List BatchPart)
batch_of (event.Batch now sync parts) = Some parts.now
batch_of e = None

-- it lists what came of so many parts of a batch, and nothing past them
abbrev pub IsListed : ℕ → Outcome → Type 0
IsListed count (outcome.Batched outcomes) = (i : ℕ) → count ≤ i → i < 16 → slice_get outcomes i ≡ Some None
IsListed count o = ⊥

-- What comes of a batch, where these parts are one and where they are none.
pub record IsBatched (e : Event) (parts : List BatchPart) (old new : List CircuitState) (o : Outcome) (out : List ℕ) : Type 0 where
  pub gone : (c : ℕ) → is_batch parts ≡ true → is_named c parts ≡ true → length old ≤ c → outcome_at c e o ≡ outcome.Gone
  pub no_batch : is_batch parts ≡ false → (o ≡ outcome.NotABatch) × (new ≡ old)
  pub listed : is_batch parts ≡ true → IsListed (length parts) o
  pub silent : (frame_of o out ≡ []) × (out ≡ [])

-- One event, taken whole.
pub record Steps (e : Event) (old new : List CircuitState) (o : Outcome) (out : List ℕ) : Type 0 where
  pub count : length new ≡ length old
  -- which plans have a circuit stays, and a reload turns it
  pub plans : (c : ℕ) → plans_at c new ≡ plans_at c old
  pub turns : (c : ℕ) → is_on_at c new ≡ is_on_after (plans_at c old) (is_on_at c old) e
  -- a state that represents a machine represents it after what its circuit saw
  pub each : (c : ℕ) (setup : Setup) (a : Alone) → Represents c old setup a → Represents c new setup (after_seen setup (seen_at c old e) a)
  -- and the outcome is the machine's
  pub answers : (c : ℕ) (setup : Setup) (a : Alone) → Represents c old setup a → Answers c setup (seen_at c old e) a (outcome_at c e o) out
  -- a circuit that sees an event that saves nothing keeps its region byte for byte
  pub quiet : (c : ℕ) (setup : Setup) (a : Alone) (s : Seen) → Represents c old setup a → seen_at c old e ≡ Some s → writes setup s a ≡ false → region_at c new ≡ region_at c old
  -- its counter, its region's fault and what a restart leaves of its region are those of what it sees
  pub rest : (c : ℕ) (s : Seen) (before after : CircuitState) → seen_at c old e ≡ Some s → slice_get old c ≡ Some before → slice_get new c ≡ Some after → MovesRest s before after
  -- what a circuit doesn't see leaves its state as it was
  pub others : (c : ℕ) → seen_at c old e ≡ None → slice_get new c ≡ slice_get old c
  -- and no frame leaves towards it
  pub away : (c : ℕ) → seen_at c old e ≡ None → frames_to c (frame_of o out) ≡ []
  -- an event of a circuit that doesn't exist is gone, and nothing changes
  pub gone : (c : ℕ) → named_by e ≡ Some c → length old ≤ c → (o ≡ outcome.Gone) × (out ≡ []) × (new ≡ old)
  -- a tick is done
  pub ticked : (now : ℕ) → e ≡ event.Tick now → (o ≡ outcome.Done) × (out ≡ [])
  -- and so is a restart, which names no circuit either
  pub restarted : is_restart e ≡ true → (o ≡ outcome.Done) × (out ≡ [])
  -- and a reload, where there is such a plan; else nothing changes
  pub reloaded : (k : ℕ) → reload_of e ≡ Some k → IsReloaded k old new o out
  -- and of a batch its parts of circuits that don't exist are gone; what is none changes nothing
  pub batched : (parts : List BatchPart) → batch_of e ≡ Some parts → IsBatched e parts old new o out
  -- a stray changes nothing, and nothing leaves with it
  pub stray : is_stray e ≡ true → (frame_of o out ≡ []) × (out ≡ []) × (new ≡ old)

-- what relays and server know after it
abbrev pub topology_after : Event → Topology → Topology
topology_after (event.Reload plan) topology = reloaded plan topology
topology_after e topology = topology

-- A run reaches these states: each represents its machine after all that its circuit saw.
pub record Reaches (events : List Event) (start now : List CircuitState) : Type 0 where
  pub count : length now ≡ length start
  pub plans : (c : ℕ) → plans_at c now ≡ plans_at c start
  pub each : (c : ℕ) (setup : Setup) (a : Alone) → Represents c start setup a → Represents c now setup (after_all setup (seen_from c start events) a)

-- These are the frames of a run: towards each circuit those of its machine, on what it saw, and none
-- towards a circuit that doesn't exist.
pub record AreFrames (events : List Event) (start : List CircuitState) (sent : List CircuitFrame) : Type 0 where
  pub each : (c : ℕ) (setup : Setup) (a : Alone) → Represents c start setup a → frames_to c sent ≡ frames setup (seen_from c start events) a
  pub past : (c : ℕ) → length start ≤ c → frames_to c sent ≡ []

-- A sink that had taken some frames has taken those of the run too, in the order of the events: for every n
-- the frames of the first n events are the first of those that left.
pub record Emits (events : List Event) (start : List CircuitState) (before now : List CircuitFrame) : Type 0 where
  pub sent : List CircuitFrame
  pub taken : now ≡ before ++ sent
  pub are_frames : AreFrames events start sent
  pub in_order : (n : ℕ) → (m : ℕ) × AreFrames (take n events) start (take m sent)

-- With event n one more frame leaves, towards a circuit that exists.
pub record EmitsAt (n : ℕ) (events : List Event) (start : List CircuitState) : Type 0 where
  pub circuit : ℕ
  pub there : circuit < length start
  pub more : (setup : Setup) (a : Alone) → Represents circuit start setup a
      → length (frames setup (seen_from circuit start (take (n + 1) events)) a) ≡ length (frames setup (seen_from circuit start (take n events)) a) + 1
