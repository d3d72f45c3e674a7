-- The line that is written for the outcome of an event.
use Rattle.std.specs.Prelude.{ℕ, List, [], ◌∷◌, ◌++◌, codes, decimal, flat_map, map, slice_index, take, Option}
use Rattle.hex.specs.Hex.{encode_lower}
use Rattle.types.specs.Discard.{number_of}
use Rattle.types.specs.declared.dest.Dest.{Dest}
use Rattle.types.specs.declared.dest.Dest.TheVariants.{Broadcast, Unicast, Peer}
use Rattle.events.specs.declared.outcome.Outcome.{Outcome}
use Rattle.events.specs.declared.outcome.Outcome.TheVariants as outcome
use Rattle.events.specs.declared.batch.PartOutcome.{PartOutcome}
use Rattle.world.specs.Headline.{of_part}
use Rattle.world.specs.Alone.{Effect, Dropped, Gone, SentUp, SentDown, Framed, Done}

-- an address in dotted decimal
abbrev pub dotted : List ℕ → List ℕ
dotted bytes =
    decimal (slice_index bytes 0) ++ codes "." ++ decimal (slice_index bytes 1) ++ codes "." ++ decimal (slice_index bytes 2) ++ codes "."
    ++ decimal (slice_index bytes 3)

-- the destination of a frame
abbrev pub dest_text : Dest → List ℕ
dest_text Broadcast = codes "broadcast "
dest_text (Unicast chaddr yiaddr) = codes "unicast " ++ encode_lower chaddr ++ codes " " ++ dotted yiaddr.0 ++ codes " "
dest_text (Peer address) = codes "peer " ++ encode_lower address.0 ++ codes " "

-- the effect of an event of the circuit with this id
abbrev pub effect_text : List ℕ → Effect → List ℕ
effect_text id (Dropped why) = codes "drop " ++ decimal (number_of why)
effect_text id Gone = codes "gone"
effect_text id (SentUp len) = codes "up " ++ decimal len
effect_text id (SentDown len) = codes "down " ++ decimal len
effect_text id (Framed frame) = codes "to " ++ id ++ codes " " ++ dest_text frame.dest ++ encode_lower frame.bytes
effect_text id Done = codes "ok"

-- the effect that an outcome of the world reports; a frame's bytes are in `out`
abbrev pub outcome_effect : Outcome → List ℕ → Effect
outcome_effect (outcome.Dropped why) out = Dropped why
outcome_effect outcome.Gone out = Gone
outcome_effect (outcome.SentUp len) out = SentUp len
outcome_effect (outcome.SentDown len) out = SentDown len
outcome_effect (outcome.Framed circuit dest) out = Framed (record { dest = dest; bytes = out })
outcome_effect outcome.Done out = Done
-- no line asks for it
outcome_effect (outcome.Batched outcomes) out = Gone
outcome_effect outcome.NotABatch out = Gone
outcome_effect outcome.NotAStray out = Gone
outcome_effect outcome.NoPlan out = Gone

-- a line with its line feed
abbrev pub with_newline : List ℕ → List ℕ
with_newline line = line ++ 10 ∷ []

-- texts with `; ` before each
abbrev pub with_marks : List (List ℕ) → List ℕ
with_marks texts = flat_map (λ text. codes "; " ++ text) texts

-- the outputs of the parts of a batch, with `; ` between them
abbrev pub joined : List (List ℕ) → List ℕ
joined [] = []
joined (text ∷ texts) = text ++ with_marks texts

-- what came of one part of a batch, and of so many
abbrev pub part_text : Option PartOutcome → List ℕ
part_text o = effect_text [] (outcome_effect (of_part o) [])

abbrev pub batch_text : Outcome → ℕ → List ℕ
batch_text (outcome.Batched outcomes) count = joined (map part_text (take count outcomes))
batch_text o count = codes "gone"

-- the last line of the output where the n-th line is bad
abbrev pub bad_text : ℕ → List ℕ
bad_text n = with_newline (codes "line " ++ decimal n ++ codes " bad")
