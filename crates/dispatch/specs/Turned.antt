-- Circuits that turn off: the plan in force has them, and the one that comes into force has not. Only proofs need this.
use Rattle.std.specs.Prelude.{◌≡◌, ℕ, ◌+◌, ◌*◌, ◌<◌, ◌&&◌, not, Bool, true, false, List, length, Option}
use Rattle.config.specs.Membership.{has}
use Rattle.config.specs.Topology.{Topology, serves}
use Rattle.timers.specs.Deadlines.{DeadlinesValue, deadline}
use Rattle.circuit_server.specs.Deadlines.{held_in}
use Rattle.dispatch.specs.ServerValue.{HoldsDeadlines}
use Rattle.circuit_server.specs.CircuitServerValue.{OpenCircuitValue}
use Rattle.circuit_server.specs.Ticked.{server_state}
use Rattle.circuit_server.specs.Unoffered.{state_unoffered}

-- whether a circuit turns off when this plan comes into force
abbrev pub turns_off : Topology → ℕ → ℕ → Bool
turns_off topology plan c = serves topology c && not (has topology.plans plan c)

-- what a circuit has afterwards, by whether it turned off
abbrev pub state_turned : Bool → Option OpenCircuitValue → Option OpenCircuitValue
state_turned true state = state_unoffered state
state_turned false state = state

-- These circuits turned off, and no other: their deadlines are those of what is left of them, and those of the others stay.
pub record AreTurned (off : ℕ → Bool) (old new : List (Option OpenCircuitValue)) (before after : DeadlinesValue) : Type 0 where
  pub count : length new ≡ length old
  pub states : (c : ℕ) → server_state new c ≡ state_turned (off c) (server_state old c)
  pub left : (c s : ℕ) → c < length new → off c ≡ true → s < 32 → deadline after (32 * c + s) ≡ held_in (server_state new c) s
  pub others : (c s : ℕ) → off c ≡ false → s < 32 → deadline after (32 * c + s) ≡ deadline before (32 * c + s)
  pub examined : after.examined ≡ before.examined
  pub held : HoldsDeadlines after new
