-- What a run added to the history, round by round.
use Rattle.std.specs.Prelude.{◌≡◌, ◌⊎◌, ℕ, zero, suc, List, [], ◌∷◌, ◌++◌, drop, length}
use Rattle.config.specs.Topology.{IsTopology}
use Rattle.access.specs.Access.{AccessValue, AreRounds, HasTurnedOnce}
use Rattle.access.specs.Pass.{HasPassedOnce}
use Rattle.udp.specs.History.{Entry, Ticked}

-- A round: a turn or a pass, at a moment that is said to it by readings of clocks.
abbrev pub IsRound : ℕ → ℕ → AccessValue → AccessValue → Type 0
IsRound before now old new = HasTurnedOnce before now old new ⊎ HasPassedOnce before now old new

-- Relay and server of a configuration made some rounds.
pub record IsRun (old new : AccessValue) : Type 0 where
  pub topology : IsTopology old.topology
  pub served : old.server.topology ≡ old.topology
  pub rounds : ℕ
  pub now : ℕ
  pub made : AreRounds IsRound rounds now old new

-- the entries that were added since then
abbrev pub added : AccessValue → AccessValue → List Entry
added old new = drop (length old.history) new.history

-- what happened in a turn or a pass, and its moment
pub record Turn : Type 0 where
  pub entries : List Entry
  pub now : ℕ

-- A turn ends with its moment, and so does a pass. These entries of the first one have been read already.
abbrev pub turns_after : List Entry → List Entry → List Turn
turns_after before [] = []
turns_after before (Ticked now ∷ entries) = record { entries = before; now = now } ∷ turns_after [] entries
turns_after before (entry ∷ entries) = turns_after (before ++ entry ∷ []) entries

abbrev pub turns_in : List Entry → List Turn
turns_in = turns_after []
