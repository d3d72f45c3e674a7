-- Batches: several datagrams that reach the server at one moment.
use Rattle.std.specs.Prelude.{ℕ, ◌==◌, ◌&&◌, Bool, true, not, nat_le, if◌then◌else◌, List, [], ◌∷◌, length, Option, Some, None}
use Rattle.std.specs.List.{list_any}
use Rattle.batch_saves.specs.Batch.{first_of, is_sync_fault, is_write_fault}
use Rattle.events.specs.declared.batch.BatchPart.{BatchPart}
use Rattle.events.specs.declared.batch.PartOutcome.{PartOutcome}

abbrev pub is_named : ℕ → List BatchPart → Bool
is_named c parts = list_any (λ p. p.circuit == c) parts

abbrev pub are_apart : List BatchPart → Bool
are_apart [] = true
are_apart (p ∷ parts) = not (is_named p.circuit parts) && are_apart parts

-- 1 to 16 parts, each of another circuit
abbrev pub is_batch : List BatchPart → Bool
is_batch parts = nat_le 1 (length parts) && nat_le (length parts) 16 && are_apart parts

-- the part of circuit c
abbrev pub part_of : ℕ → List BatchPart → Option BatchPart
part_of c [] = None
part_of c (p ∷ parts) = if p.circuit == c then Some p else part_of c parts

-- Which call of a part's save fails, 0 for none: its own write, or the shared sync, whichever comes first. Any other number is none.
abbrev pub part_fault : ℕ → ℕ → ℕ
part_fault sync fault = first_of (if is_sync_fault sync then sync else 0) (if is_write_fault fault then fault else 0)

-- what came of the part of circuit c
abbrev pub outcome_of : ℕ → List BatchPart → List (Option PartOutcome) → Option PartOutcome
outcome_of c (p ∷ parts) (o ∷ outcomes) = if p.circuit == c then o else outcome_of c parts outcomes
outcome_of c parts outcomes = None
