-- Until when each slot has a deadline, and which of them are due.
use Rattle.std.specs.Prelude.{ℕ, Bool, false, nat_le, if◌then◌else◌, List, Option, Some, None, slice_index_or}

-- slots: until when each slot has a deadline, in seconds, by its number; None where it has none.
-- looks: how often an entry was looked at since the table was made
pub record DeadlinesValue : Type 0 where
  pub slots : List (Option ℕ)
  pub examined : ℕ

-- until when a slot has its deadline; None where it has none, or is not there
abbrev pub deadline : DeadlinesValue → ℕ → Option ℕ
deadline table slot = slice_index_or table.slots slot None

-- an entry is due from its deadline on
abbrev pub is_due : ℕ → Option ℕ → Bool
is_due now None = false
is_due now (Some until) = nat_le until now

-- a sweep removes each entry that is due, and no other
abbrev pub entry_after_sweep : ℕ → Option ℕ → Option ℕ
entry_after_sweep now entry = if is_due now entry then None else entry
