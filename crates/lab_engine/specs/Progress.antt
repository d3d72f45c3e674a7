-- What a line and a run of lines do to the world and to the writer. Only contracts between crates cite these.
use Rattle.std.specs.Prelude.{◌≡◌, ℕ, ◌+◌, ◌<◌, ◌⊎◌, ◌==◌, if◌then◌else◌, Bool, List, ◌++◌, length, Option, Some, None, IfSome}
use Rattle.std.specs.Io.KnownBytes.{Appends, Consumes}
use Rattle.config.specs.Plans.{PlansValue}
use Rattle.config.specs.Topology.{Topology, topology_with}
use Rattle.events.specs.declared.batch.BatchPart.{BatchPart}
use Rattle.events.specs.declared.comeback.Comeback.{Comeback}
use Rattle.world.specs.Alone.{Alone, Setup}
use Rattle.world.specs.Headline.{CircuitState, Represents, plans_at}
use Rattle.world.specs.Start.{members_of, setup_in}
use Rattle.events.specs.Seen.{Seen, named_by, seen_of}
use Rattle.events.specs.declared.event.Event.{Event}
use Rattle.events.specs.declared.event.Event.TheVariants as event
use Rattle.lab_engine.specs.Lab.{Output, LineResult, Refused, Applied, lab_from}
use Rattle.lab_text.specs.Line.{Line, Reload, Tick, line_of_text}
use Rattle.streams.specs.Lines.{lines_of}
use Rattle.lab_text.specs.ParsedLine.{IsRestart, Means, ParsedWithin}
use Rattle.lab_text.specs.declared.parse_line.Parsed.{Parsed}
use Rattle.lab_engine.specs.declared.buffers.Buffers.{Buffers}
use Rattle.lab_engine.specs.Output.{bad_text}
use Rattle.lab_engine.specs.Run.{IsEnd}
use Rattle.streams.specs.Writing.{AppendsPrefix}

-- each circuit's state represents its machine, and says which plans have it
pub record AllRepresent (plans : PlansValue) (quota : ℕ) (states : List CircuitState) (machines : ℕ → Alone) : Type 0 where
  pub each : (c : ℕ) (setup : Setup) → setup_in plans quota c ≡ Some setup → Represents c states setup (machines c)
  pub members : (c : ℕ) → plans_at c states ≡ members_of plans c

-- relays and server are those of these plans, whichever is in force
pub record KnowsPlans (plans : PlansValue) (topology : Topology) : Type 0 where
  pub plan : ℕ
  pub is : topology ≡ topology_with plans.union (record { count = plans.count; members = plans.members; plan = plan })

-- The event names this circuit, which alone sees it, as this.
pub record Names (circuit : ℕ) (seen : Seen) (event : Event) : Type 0 where
  pub named : named_by event ≡ Some circuit
  pub sees : (plans : List Bool) (c : ℕ) (on : Bool) → seen_of plans c on event ≡ (if circuit == c then Some seen else None)

-- The line says this event, of which only `ok` is written.
abbrev pub IsDoneBy : PlansValue → Line → Event → Type 0
IsDoneBy plans line (event.Tick now) = line ≡ Tick now
IsDoneBy plans line (event.Reload plan) = (plan < plans.count) × (line ≡ Reload plan)
IsDoneBy plans line (event.Restart comebacks) = IsRestart comebacks.now line
IsDoneBy plans line (event.Frame circuit proto bytes) = ⊥
IsDoneBy plans line (event.Up circuit j now fault) = ⊥
IsDoneBy plans line (event.Batch now sync parts) = ⊥
IsDoneBy plans line (event.Down circuit j) = ⊥
IsDoneBy plans line (event.StrayUp proto source bytes now) = ⊥
IsDoneBy plans line (event.StrayDown relay source bytes) = ⊥

-- This line was parsed to this, with its bytes, its comebacks and its parts in these buffers.
pub record IsParsed (plans : PlansValue) (bytes : List ℕ) (comebacks : List Comeback) (parts : List BatchPart) (line : List ℕ) (parsed : Parsed) : Type 0 where
  pub means : Means parsed bytes comebacks parts (line_of_text plans.union plans.count line)
  pub within : ParsedWithin plans.union plans.count parts parsed

-- It was parsed to this, with all of them in these.
abbrev pub IsParsedIn : PlansValue → Buffers → List ℕ → Parsed → Type 0
IsParsedIn plans buffers line parsed = IsParsed plans buffers.bytes buffers.comebacks buffers.parts line parsed

-- A line was applied, and its output was written.
pub record IsLineApplied (plans : PlansValue) (quota : ℕ) (written : List ℕ) (machines : ℕ → Alone) (states : List CircuitState) (held holds : Option (List ℕ)) : Type 0 where
  pub appended : Appends held holds written
  pub represents : AllRepresent plans quota states machines

-- The last line of the output was written, or, where the writer failed, a prefix of it.
abbrev pub IsRefusal : ℕ → Option (List ℕ) → Option (List ℕ) → ℕ → Type 0
IsRefusal number held holds status =
    ((status ≡ 3) × Appends held holds (bad_text number)) ⊎ ((status ≡ 6) × AppendsPrefix held holds (bad_text number))

-- World and writer follow the result of a line: the run goes on where no status is returned, and else
-- it ends.
abbrev pub HasResult : PlansValue → ℕ → ℕ → LineResult → List CircuitState → Option (List ℕ) → Option (List ℕ) → Option ℕ → Type 0
HasResult plans quota number (Applied written machines) states held holds None = IsLineApplied plans quota written machines states held holds
HasResult plans quota number (Applied written machines) states held holds (Some status) = (status ≡ 6) × AppendsPrefix held holds written
HasResult plans quota number Refused states held holds None = ⊥
HasResult plans quota number Refused states held holds (Some status) = IsRefusal number held holds status

-- The line that lacks its line feed: an empty one ends the run with status 0, and so does one that is
-- not bad.
abbrev pub HasLastResult : PlansValue → ℕ → ℕ → List ℕ → LineResult → List CircuitState → Option (List ℕ) → Option (List ℕ) → ℕ → Type 0
HasLastResult plans quota number line result states held holds status =
    ((length line ≡ 0) × (status ≡ 0) × (holds ≡ held))
    ⊎ ((length line ≡ 0 → ⊥) × (((status ≡ 0) × HasResult plans quota number result states held holds None) ⊎ HasResult plans quota number result states held holds (Some status)))

-- Relays and server are those of the same plans after an event, and its line ends the run with 3, with 6 exactly where the writer
-- failed, by its counts before and after, or not at all.
pub record HasStatus (status : Option ℕ) (failures failures_after : ℕ) (topology topology_after : Topology) : Type 0 where
  pub known : (plans : PlansValue) → KnowsPlans plans topology → KnowsPlans plans topology_after
  pub end : IfSome status IsEnd
  pub quiet : (status ≡ Some 6 → ⊥) → failures_after ≡ failures
  pub cause : status ≡ Some 6 → failures_after ≡ failures + 1

-- the output that follows what was written
abbrev pub after : List ℕ → Output → Output
after written o = record { text = written ++ o.text; status = o.status }

-- A run that is about to apply the line with this number, and what is known of the rest of the text.
pub record SoFar (plans : PlansValue) (quota number : ℕ) (output : List ℕ → Output) (given left held holds : Option (List ℕ)) (states : List CircuitState) (Known : List ℕ → Type 0) : Type 0 where
  pub machines : ℕ → Alone
  pub represents : AllRepresent plans quota states machines
  pub read : List ℕ
  pub consumed : Consumes given left read
  pub written : List ℕ
  pub appended : Appends held holds written
  pub whole : (rest : List ℕ) → Known rest → output (read ++ rest) ≡ after written (lab_from plans quota number machines (lines_of rest))

-- A run that has read these bytes and ended with this status.
pub record Ends (output : List ℕ → Output) (given left held holds : Option (List ℕ)) (status : ℕ) : Type 0 where
  pub read : List ℕ
  pub consumed : Consumes given left read
  -- whatever is left of the text, what was written is the output of all of it
  pub exact : (status ≡ 6 → ⊥) → (rest : List ℕ) → left ≡ Some rest → Appends held holds (output (read ++ rest)).text × (status ≡ (output (read ++ rest)).status)
  pub partial : status ≡ 6 → AppendsPrefix held holds (output read).text
