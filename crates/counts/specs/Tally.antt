-- What became of datagrams, with the circuits that they are counted for.
use Rattle.std.specs.Prelude.{ℕ, ◌==◌, List, [], ◌∷◌, Option, Some, None, if◌then◌else◌, replicate}
use Rattle.std.specs.List.{filter_map}
use Rattle.counts.specs.CircuitCounts.{CircuitCountsValue, counted_for}
use Rattle.counts.specs.Counts.{counted, none}
use Rattle.counts.specs.declared.counts.Fate.{Fate}
use Rattle.counts.specs.declared.tally.Tally.{Tally}

-- what became of a datagram, and the circuit that it is counted for, if there is one
pub record CircuitFate : Type 0 where
  pub circuit : Option ℕ
  pub became : Fate

abbrev pub circuit_fate : Option ℕ → Fate → CircuitFate
circuit_fate circuit became = record { circuit = circuit; became = became }

-- nothing was taken yet of any of so many circuits
abbrev pub nothing_taken : ℕ → Tally
nothing_taken circuits = record { all = none; by_circuit = record { circuits = replicate circuits none } }

-- one more datagram for the circuit that it is counted for; one that is counted for none changes nothing
abbrev pub counted_by : Option ℕ → Fate → CircuitCountsValue → CircuitCountsValue
counted_by None became counts = counts
counted_by (Some c) became counts = record { circuits = counted_for c became counts.circuits }

-- one more datagram: each is counted among all, and for its circuit
abbrev pub tallied : CircuitFate → Tally → Tally
tallied o tally = record { all = counted o.became tally.all; by_circuit = counted_by o.circuit o.became tally.by_circuit }

-- one datagram after the other
abbrev pub tallied_all : List CircuitFate → Tally → Tally
tallied_all [] tally = tally
tallied_all (o ∷ os) tally = tallied_all os (tallied o tally)

-- ---- by circuit

-- what became of a datagram, if it is counted for circuit c
abbrev pub own_fate : ℕ → Option ℕ → Fate → Option Fate
own_fate c None became = None
own_fate c (Some k) became = if k == c then Some became else None

-- what became of those that are counted for circuit c, in order
abbrev pub fates_of : ℕ → List CircuitFate → List Fate
fates_of c = filter_map (λ o. own_fate c o.circuit o.became)
