-- Counts for each circuit.
use Rattle.std.specs.Prelude.{ℕ, List, Option, Some, None, slice_get, slice_set}
use Rattle.counts.specs.Counts.{counted}
use Rattle.counts.specs.declared.counts.Counts.{Counts}
use Rattle.counts.specs.declared.counts.Fate.{Fate}

-- what is counted for each circuit, by its index
pub record CircuitCountsValue : Type 0 where
  pub circuits : List Counts

-- one more datagram for what is counted in a place, if there is one
abbrev pub counted_at : List Counts → ℕ → Fate → Option Counts → List Counts
counted_at counts c became None = counts
counted_at counts c became (Some own) = slice_set counts c (counted became own)

-- one more datagram of a circuit, by what became of it; every other circuit's counts stay
abbrev pub counted_for : ℕ → Fate → List Counts → List Counts
counted_for c became counts = counted_at counts c became (slice_get counts c)
