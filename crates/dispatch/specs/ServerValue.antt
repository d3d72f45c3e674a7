-- What shows of the server in the code.
use Rattle.std.specs.Prelude.{◌≡◌, ℕ, ◌*◌, Bool, List, [], ◌∷◌, length, map, Option, Some, None, All, slice_get}
use Rattle.config.specs.CircuitPart.{CircuitPart}
use Rattle.config.specs.Topology.{IsTopology, Topology}
use Rattle.lease_disk.specs.Region.{Region}
use Rattle.timers.specs.Deadlines.{DeadlinesValue}
use Rattle.circuit_server.specs.CircuitServerValue.{CircuitServerValue, HasFoundBook, HasItsPools, HasSettledRegion, IsReady, OpenCircuitValue, server_book, leases_of}
use Rattle.circuit_server.specs.Deadlines.{HasDeadlines}
use Rattle.circuit_server.specs.Leases.{Leases}
use Rattle.circuit_server.specs.Server.{Book}

-- Each part with what its circuit has, in order. A circuit that has nothing is closed.
abbrev pub with_states : List CircuitPart → List (Option OpenCircuitValue) → List CircuitServerValue
with_states [] states = []
with_states (part ∷ parts) [] = record { part = part; state = None } ∷ with_states parts []
with_states (part ∷ parts) (state ∷ states) = record { part = part; state = state } ∷ with_states parts states

-- what it knows of the configuration, what each circuit has while it is open, and when what is held in their
-- slots is due
pub record ServerValue : Type 0 where
  pub topology : Topology
  pub states : List (Option OpenCircuitValue)
  pub deadlines : DeadlinesValue

abbrev pub circuits_in : ServerValue → List CircuitServerValue
circuits_in s = with_states s.topology.circuits s.states

-- each circuit's book, and its leases
abbrev pub books_in : ServerValue → List (Option Book)
books_in s = map server_book (circuits_in s)

abbrev pub leases_in : (ℕ → Region) → ServerValue → List Leases
leases_in regions s = map (leases_of regions) (circuits_in s)

-- the book of every open circuit is what some slots of a region mean: at their clock, and without offers
abbrev pub BeginsAsFound : ServerValue → Type 0
BeginsAsFound s = All HasFoundBook (circuits_in s)

-- every open circuit's region can be saved to
abbrev pub AreReady : (ℕ → Region) → ServerValue → Type 0
AreReady regions s = All (IsReady regions) (circuits_in s)

-- every open circuit's region is settled: what was read of it is on the disk
abbrev pub HaveSettledRegions : (ℕ → Bool) → ServerValue → Type 0
HaveSettledRegions doubt s = All (HasSettledRegion doubt) (circuits_in s)

-- what the fields of a server keep: a state for each part, with the slots of its pools
pub record IsServer (topology : Topology) (states : List (Option OpenCircuitValue)) : Type 0 where
  pub sound : IsTopology topology
  pub size : length states ≡ length topology.circuits
  pub pools : All HasItsPools (with_states topology.circuits states)

-- what the table of deadlines has of all circuits, by what each has while it is open
pub record HoldsDeadlines (table : DeadlinesValue) (states : List (Option OpenCircuitValue)) : Type 0 where
  pub size : length table.slots ≡ 32 * length states
  pub each : (c : ℕ) (state : Option OpenCircuitValue) → slice_get states c ≡ Some state → HasDeadlines table (32 * c) state
