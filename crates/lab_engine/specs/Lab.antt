-- The output for a text of event lines, by one machine for each circuit.
use Rattle.std.specs.Prelude.{ℕ, ◌+◌, ◌-◌, ◌==◌, if◌then◌else◌, Bool, false, List, [], ◌∷◌, ◌++◌, length, map, slice_get, slice_index, Option, Some, None}
use Rattle.config.specs.Plans.{PlansValue}
use Rattle.events.specs.declared.comeback.Comeback.{Comeback}
use Rattle.lease_disk.specs.Layout.{formatted, formatted_old}
use Rattle.lease_disk.specs.Region.{is_within}
use Rattle.world.specs.Alone.{Alone, Setup, Step, Dropped, Done, alone_step, unsent}
use Rattle.world.specs.Headline.{after_seen}
use Rattle.world.specs.Start.{Opening, members_of, opened, setup_in}
use Rattle.std.specs.Option.{unwrap_or}
use Rattle.events.specs.Batch.{part_fault, part_of}
use Rattle.events.specs.declared.batch.BatchPart.{BatchPart}
use Rattle.events.specs.Seen.{Seen, seen_part, turn_to}
use Rattle.events.specs.Seen as sees
use Rattle.lab_text.specs.Fields.{comeback_in}
use Rattle.lab_text.specs.Line.{Line, Ignored, Bad, Fill, Old, Load, Move, Named, Tick, Restart, Batch, Reload, Stray, line_of_text}
use Rattle.streams.specs.Lines.{lines_of}
use Rattle.lab_engine.specs.Output.{effect_text, joined, with_newline, bad_text}

pub record Output : Type 0 where
  pub text : List ℕ
  pub status : ℕ

-- The result of a line: it is bad, or this is written and these are the machines after it.
pub data LineResult : Type 0 where
  Refused : LineResult
  Applied : List ℕ → (ℕ → Alone) → LineResult

-- circuit c's machine in its next state, and each other one as it was
abbrev pub with_machine : ℕ → Alone → (ℕ → Alone) → ℕ → Alone
with_machine c next machines d = if c == d then next else machines d

-- a step of one circuit's machine
abbrev pub step_result : ℕ → List ℕ → Step → (ℕ → Alone) → LineResult
step_result c id step machines = Applied (with_newline (effect_text id step.effect)) (with_machine c step.next machines)

-- an event of circuit c, by how it is set up
abbrev pub named_result : ℕ → Seen → (ℕ → Alone) → Option Setup → LineResult
named_result c seen machines None = Refused
named_result c seen machines (Some setup) = step_result c setup.part.id (alone_step setup seen (machines c)) machines

-- the moment passes for a machine
abbrev pub ticked : ℕ → Alone → Option Setup → Alone
ticked now a None = a
ticked now a (Some setup) = (alone_step setup (sees.Tick now) a).next

-- another plan comes into force for the machine of a circuit that these plans have
abbrev pub reloaded : List Bool → ℕ → Alone → Option Setup → Alone
reloaded has plan a None = a
reloaded has plan a (Some setup) = after_seen setup (turn_to a.on (unwrap_or (slice_get has plan) a.on)) a

-- the server and the disk start again for a machine
abbrev pub restarted : Comeback → Alone → Option Setup → Alone
restarted comeback a None = a
restarted comeback a (Some setup) = (alone_step setup (sees.Restart comeback) a).next

-- what the circuit of a part sees of a batch
abbrev pub part_seen : ℕ → ℕ → BatchPart → Seen
part_seen now sync p = sees.Up p.number now (part_fault sync p.fault)

-- the output of a part, by the machine of its circuit
abbrev pub text_of_part : ℕ → ℕ → BatchPart → Alone → Option Setup → List ℕ
text_of_part now sync p a None = []
text_of_part now sync p a (Some setup) = effect_text setup.part.id (alone_step setup (part_seen now sync p) a).effect

-- a circuit's machine after a batch, by its part, if it has one
abbrev pub batched : ℕ → ℕ → Option BatchPart → Alone → Option Setup → Alone
batched now sync part a None = a
batched now sync part a (Some setup) = after_seen setup (seen_part now sync part) a

abbrev pub line_result : PlansValue → ℕ → (ℕ → Alone) → Line → LineResult
line_result plans quota machines Ignored = Applied [] machines
line_result plans quota machines Bad = Refused
-- what says what a region holds, after an event
line_result plans quota machines (Fill c byte) = Refused
line_result plans quota machines (Old c) = Refused
line_result plans quota machines (Load c at bytes) = Refused
line_result plans quota machines (Move c fault) = Refused
line_result plans quota machines (Named c seen) = named_result c seen machines (setup_in plans quota c)
line_result plans quota machines (Tick now) =
    Applied (with_newline (effect_text [] Done)) (λ c. ticked now (machines c) (setup_in plans quota c))
line_result plans quota machines (Restart named) =
    Applied (with_newline (effect_text [] Done)) (λ c. restarted (comeback_in c named) (machines c) (setup_in plans quota c))
line_result plans quota machines (Reload plan) =
    Applied (with_newline (effect_text [] Done)) (λ c. reloaded (members_of plans c) plan (machines c) (setup_in plans quota c))
line_result plans quota machines (Batch now sync parts) =
    Applied (with_newline (joined (map (λ (p : BatchPart). text_of_part now sync p (machines p.circuit) (setup_in plans quota p.circuit)) parts)))
    (λ c. batched now sync (part_of c parts) (machines c) (setup_in plans quota c))
-- a stray changes no machine
line_result plans quota machines (Stray why) = Applied (with_newline (effect_text [] (Dropped why))) machines

-- The n-th line is bad and ends the output with status 3, or what it writes precedes the output for the rest.
abbrev pub and_then : ℕ → LineResult → ((ℕ → Alone) → Output) → Output
and_then n Refused rest = record { text = bad_text n; status = 3 }
and_then n (Applied written machines) rest = record { text = written ++ (rest machines).text; status = (rest machines).status }

-- the output for these lines, the first of which is the n-th of the text, with status 0 at their end
unfoldable pub lab_from : PlansValue → ℕ → ℕ → (ℕ → Alone) → List (List ℕ) → Output
lab_from plans quota n machines [] = record { text = []; status = 0 }
lab_from plans quota n machines (line ∷ lines) =
    and_then n (line_result plans quota machines (line_of_text plans.union plans.count line)) (λ next. lab_from plans quota (n + 1) next lines)

-- ---- before all events

-- what circuit c's opening finds, and each other one as it was
abbrev pub with_opening : ℕ → Opening → (ℕ → Opening) → ℕ → Opening
with_opening c next openings d = if c == d then next else openings d

-- these bytes stand from an offset on
abbrev pub loaded : ℕ → List ℕ → (ℕ → ℕ) → ℕ → ℕ
loaded at bytes old i = if is_within at (length bytes) i then slice_index bytes (i - at) else old i

-- What a line before all events makes of the openings; None where it is an event or bad.
abbrev pub prepared : Line → (ℕ → Opening) → Option (ℕ → Opening)
prepared Ignored openings = Some openings
prepared (Fill c byte) openings = Some (with_opening c (record (openings c) { byte = λ i. byte }) openings)
prepared (Old c) openings = Some (with_opening c (record (openings c) { byte = formatted_old }) openings)
prepared (Load c at bytes) openings = Some (with_opening c (record (openings c) { byte = loaded at bytes (openings c).byte }) openings)
prepared (Move c fault) openings = Some (with_opening c (record (openings c) { move_fault = fault }) openings)
prepared line openings = None

-- a circuit's machine at the start, by what its opening finds
abbrev pub first_machine : Opening → Option Setup → Alone
first_machine opening None = unsent false
first_machine opening (Some setup) = opened setup opening

abbrev pub first_machines : PlansValue → ℕ → (ℕ → Opening) → ℕ → Alone
first_machines plans quota openings c = first_machine (openings c) (setup_in plans quota c)

abbrev pub or_begin : Option (ℕ → Opening) → ((ℕ → Opening) → Output) → Output → Output
or_begin None rest events = events
or_begin (Some openings) rest events = rest openings

-- The same where no event came before them: a line that says what a region holds writes nothing, and any other begins
-- the events.
unfoldable pub output_from : PlansValue → ℕ → ℕ → (ℕ → Opening) → List (List ℕ) → Output
output_from plans quota n openings [] = record { text = []; status = 0 }
output_from plans quota n openings (line ∷ lines) =
    or_begin (prepared (line_of_text plans.union plans.count line) openings) (λ next. output_from plans quota (n + 1) next lines)
    (lab_from plans quota n (first_machines plans quota openings) (line ∷ lines))

-- every region was just formatted, and no call fails
abbrev pub first_openings : ℕ → Opening
first_openings c = record { byte = formatted; move_fault = 0 }

-- the output for a text
abbrev pub lab_output : PlansValue → ℕ → List ℕ → Output
lab_output plans quota text = output_from plans quota 1 first_openings (lines_of text)

-- the output for a text of events alone, over these machines
abbrev pub events_output : PlansValue → ℕ → (ℕ → Alone) → List ℕ → Output
events_output plans quota machines text = lab_from plans quota 1 machines (lines_of text)
