-- What the server's calls make of the table of deadlines.
use Rattle.std.specs.Prelude.{◌≡◌, ℕ, ◌+◌, ◌*◌, ◌<◌, Bool, false, List, Option, Some, slice_get}
use Rattle.timers.specs.Deadlines.{DeadlinesValue, deadline}
use Rattle.circuit_server.specs.CircuitServerValue.{OpenCircuitValue}
use Rattle.circuit_server.specs.Deadlines.{UnchangedOrUntilHeld, held_in}

-- No entry is looked at, and the slots of every circuit that is not among these keep their deadlines.
pub record KeepsDeadlines (among : ℕ → Bool) (old new : DeadlinesValue) : Type 0 where
  pub examined : new.examined ≡ old.examined
  pub others : (c s : ℕ) → among c ≡ false → s < 32 → deadline new (32 * c + s) ≡ deadline old (32 * c + s)

-- Each deadline of each circuit is what it was, or until when its slot is held now.
abbrev pub AllUnchangedOrUntilHeld : DeadlinesValue → DeadlinesValue → List (Option OpenCircuitValue) → Type 0
AllUnchangedOrUntilHeld old new states = (c : ℕ) (state : Option OpenCircuitValue) → slice_get states c ≡ Some state → UnchangedOrUntilHeld (32 * c) old new state

-- Each slot's deadline is until when it is held, live or expired, and a slot that nobody holds has none.
pub record AreSetAnew (table : DeadlinesValue) (states : List (Option OpenCircuitValue)) : Type 0 where
  pub each : (c s : ℕ) (state : Option OpenCircuitValue) → slice_get states c ≡ Some state → s < 32 → deadline table (32 * c + s) ≡ held_in state s
