-- Circuits whose clocks one tick moves at once. No public call of `dispatch` speaks of this.
use Rattle.std.specs.Prelude.{ℕ, ◌≤◌, max, List, Option, None, IfSome, option_map, slice_index_or}
use Rattle.circuit_server.specs.CircuitServerValue.{OpenCircuitValue}

-- an open circuit whose clock is moved to this moment, where that is a later one
abbrev pub open_at : ℕ → OpenCircuitValue → OpenCircuitValue
open_at now o = record o { clock = max o.clock now }

-- a circuit, open or closed, after its clock was moved to this moment
abbrev pub state_at : ℕ → Option OpenCircuitValue → Option OpenCircuitValue
state_at now state = option_map (open_at now) state

-- a clock that is not before this moment
abbrev pub IsLater : ℕ → Option OpenCircuitValue → Type 0
IsLater moment state = IfSome state (λ o. moment ≤ o.clock)

-- what a circuit has while it is open; one that there is not is closed
abbrev pub server_state : List (Option OpenCircuitValue) → ℕ → Option OpenCircuitValue
server_state states c = slice_index_or states c None
