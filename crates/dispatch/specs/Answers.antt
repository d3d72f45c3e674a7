-- The answers to the parts of a batch.
use Rattle.std.specs.Prelude.{ℕ, List, [], Option, Some, None, Result, Ok, Err, slice_get}
use Rattle.types.specs.declared.discard.Discard.{Discard}
use Rattle.dispatch.specs.declared.server.batch_answers.Answer.{Answer}

-- of each part the circuit that it is of, if any, and its answer: the datagram of the reply, or why there is none
pub record AnswersValue : Type 0 where
  pub circuits : List (Option ℕ)
  pub answers : List (Result (List ℕ) Discard)

abbrev pub no_answers : AnswersValue
no_answers = record { circuits = []; answers = [] }

-- the circuit that a datagram is of, if it is of one
abbrev pub circuit_in : Result ℕ Discard → Option ℕ
circuit_in (Ok c) = Some c
circuit_in (Err why) = None

abbrev pub found_circuit : Option (Option ℕ) → Option ℕ
found_circuit (Some circuit) = circuit
found_circuit None = None

-- the circuit of the part of an index
abbrev pub circuit_at : List (Option ℕ) → ℕ → Option ℕ
circuit_at circuits j = found_circuit (slice_get circuits j)

-- a call's answer, by its result and what `out` then holds
abbrev pub answer_by : Result (Unit {0}) Discard → List ℕ → Result (List ℕ) Discard
answer_by (Ok done) out = Ok out
answer_by (Err why) out = Err why

abbrev pub answer_of : Answer → Result (List ℕ) Discard
answer_of a = answer_by a.made a.datagram
