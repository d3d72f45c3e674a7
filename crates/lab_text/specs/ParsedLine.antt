-- What the parser of a line returns, as a line. Only contracts between crates cite these.
use Rattle.std.specs.Prelude.{◌≡◌, ℕ, ◌+◌, ◌<◌, ◌≤◌, Bool, true, false, List, length, slice_get, take, Option, Some, None, ⊤}
use Rattle.settings.specs.Settings.{Settings}
use Rattle.types.specs.declared.discard.Discard.TheVariants.{UnknownSource, NotServer}
use Rattle.config.specs.Topology.{topology_of, is_relay, is_server}
use Rattle.events.specs.Seen.{Frame, Up, Down}
use Rattle.lab_text.specs.declared.parse_line.ParsedLine.{ParsedLine}
use Rattle.lab_text.specs.declared.parse_line.ParsedLine.TheVariants as parsed
use Rattle.events.specs.Seen.{comeback_at}
use Rattle.events.specs.Batch.{is_batch}
use Rattle.events.specs.declared.batch.BatchPart.{BatchPart}
use Rattle.events.specs.declared.comeback.Comeback.{Comeback}
use Rattle.lab_text.specs.declared.parse_line.Parsed.{Parsed}
use Rattle.lab_text.specs.declared.parse_line.Parsed.TheVariants as parse
use Rattle.lab_text.specs.declared.parse_line.ParsedEvent.{ParsedEvent}
use Rattle.lab_text.specs.declared.parse_line.ParsedEvent.TheVariants as event
use Rattle.lab_text.specs.declared.parse_line.Preparation.{Preparation}
use Rattle.lab_text.specs.declared.parse_line.Preparation.TheVariants as preparation
use Rattle.lab_text.specs.Fields.{comeback_in}
use Rattle.lab_text.specs.Line.{Line, Ignored, Bad, Fill, Old, Load, Move, Named, Tick, Reload, Stray}
use Rattle.lab_text.specs.Line as line

-- The line that says this of a region. What is loaded is the first of these bytes.
abbrev pub line_of_preparation : Preparation → List ℕ → Line
line_of_preparation (preparation.Fill circuit byte) bytes = Fill circuit byte
line_of_preparation (preparation.Old circuit) bytes = Old circuit
line_of_preparation (preparation.Load circuit at len) bytes = Load circuit at (take len bytes)
line_of_preparation (preparation.Move circuit fault) bytes = Move circuit fault

-- The line of an event. A frame has the first of these bytes.
abbrev pub line_of_event : ParsedEvent → List ℕ → Line
line_of_event (event.Frame circuit proto len) bytes = Named circuit (Frame proto (take len bytes))
line_of_event (event.Up circuit j now fault) bytes = Named circuit (Up j now fault)
line_of_event (event.Down circuit j) bytes = Named circuit (Down j)
line_of_event (event.Tick now) bytes = Tick now
line_of_event (event.Reload plan) bytes = Reload plan
line_of_event (event.StrayUp proto source len now) bytes = Stray UnknownSource
line_of_event (event.StrayDown relay source len) bytes = Stray NotServer

-- What is no line of its form is bad.
abbrev pub line_or_bad : Option ParsedLine → List ℕ → Line
line_or_bad None bytes = Bad
line_or_bad (Some (parsed.Prepare p)) bytes = line_of_preparation p bytes
line_or_bad (Some (parsed.Event e)) bytes = line_of_event e bytes

-- The circuit exists, and what is loaded lies within a region.
abbrev pub IsPreparationWithin : Settings → Preparation → Type 0
IsPreparationWithin settings (preparation.Fill circuit byte) = circuit < length settings.circuits
IsPreparationWithin settings (preparation.Old circuit) = circuit < length settings.circuits
IsPreparationWithin settings (preparation.Load circuit at len) = (circuit < length settings.circuits) × (len ≤ 2048) × (at + len ≤ 32768)
IsPreparationWithin settings (preparation.Move circuit fault) = circuit < length settings.circuits

-- The circuit, the relay or the plan exists, the buffer has room for the bytes, and a stray is one.
abbrev pub IsEventWithin : Settings → ℕ → ParsedEvent → Type 0
IsEventWithin settings plans (event.Frame circuit proto len) = (circuit < length settings.circuits) × (len ≤ 2048)
IsEventWithin settings plans (event.Up circuit j now fault) = circuit < length settings.circuits
IsEventWithin settings plans (event.Down circuit j) = circuit < length settings.circuits
IsEventWithin settings plans (event.Tick now) = ⊤
IsEventWithin settings plans (event.Reload plan) = plan < plans
IsEventWithin settings plans (event.StrayUp proto source len now) = (len ≤ 2048) × (is_relay (topology_of settings) source ≡ false)
IsEventWithin settings plans (event.StrayDown relay source len) =
    (len ≤ 2048) × (relay < length settings.relays) × (is_server (topology_of settings) source ≡ false)

abbrev pub IsWithin : Settings → ℕ → ParsedLine → Type 0
IsWithin settings plans (parsed.Prepare p) = IsPreparationWithin settings p
IsWithin settings plans (parsed.Event e) = IsEventWithin settings plans e

-- The line is a restart after which regions come back as this buffer says.
pub record IsRestart (comebacks : List Comeback) (given : Line) : Type 0 where
  pub named : List (ℕ × Comeback)
  pub is : given ≡ line.Restart named
  pub each : (c : ℕ) → comeback_at c comebacks ≡ comeback_in c named

-- The fields of a restart are good, and what they say is in the buffer, or they are bad.
abbrev pub IsRestartOrBad : Bool → List Comeback → Line → Type 0
IsRestartOrBad true comebacks given = IsRestart comebacks given
IsRestartOrBad false comebacks given = given ≡ Bad

-- The fields of a batch are good, and its parts are in the buffer, or they are bad.
abbrev pub batch_or_bad : Option (ℕ × ℕ) → List BatchPart → Line
batch_or_bad None parts = Bad
batch_or_bad (Some start) parts = line.Batch start.0 start.1 parts

-- the circuits of these parts exist
abbrev pub AreKnown : Settings → List BatchPart → Type 0
AreKnown settings parts = (i : ℕ) (p : BatchPart) → slice_get parts i ≡ Some p → p.circuit < length settings.circuits

-- These are the parts of a batch.
pub record IsBatchWithin (settings : Settings) (parts : List BatchPart) : Type 0 where
  pub batch : is_batch parts ≡ true
  pub known : AreKnown settings parts

-- A line that was parsed is this one. What a restart says is in a buffer, and so are the parts of a batch.
abbrev pub Means : Parsed → List ℕ → List Comeback → List BatchPart → Line → Type 0
Means parse.Ignored bytes comebacks parts given = Ignored ≡ given
Means parse.Bad bytes comebacks parts given = Bad ≡ given
Means (parse.Prepare p) bytes comebacks parts given = line_of_preparation p bytes ≡ given
Means (parse.Event e) bytes comebacks parts given = line_of_event e bytes ≡ given
Means parse.Restart bytes comebacks parts given = IsRestart comebacks given
Means (parse.Batch now sync) bytes comebacks parts given = line.Batch now sync parts ≡ given

abbrev pub ParsedWithin : Settings → ℕ → List BatchPart → Parsed → Type 0
ParsedWithin settings plans parts parse.Ignored = ⊤
ParsedWithin settings plans parts parse.Bad = ⊤
ParsedWithin settings plans parts (parse.Prepare p) = IsPreparationWithin settings p
ParsedWithin settings plans parts (parse.Event e) = IsEventWithin settings plans e
ParsedWithin settings plans parts parse.Restart = ⊤
ParsedWithin settings plans parts (parse.Batch now sync) = IsBatchWithin settings parts
