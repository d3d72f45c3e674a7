use Rattle.std.proofs.Common.{arith, ◌≡◌, ◌∙◌, ◌++◌, ◌∷◌, ℕ, List, length, sym, ap}
use Rattle.std.specs.Prelude.{Some}
use Rattle.udp.specs.History.{Entry}
use Rattle.access.specs.Access.{AccessValue}
use Rattle.access.specs.Pass.{HasMadePasses}
use Rattle.access_promises.specs.Attempts.{CircuitSocket, all_sockets, attempts_in, times_of, tried_at}
use Rattle.access_promises.specs.Turns.{added}
use Rattle.access_promises.proofs.AttemptBlocks.{IsBetween, in_turn}
use Rattle.access_promises.proofs.AttemptCounts.{frames_at_attempts}
use Rattle.access_promises.proofs.PassesInTurn.{added_is, made_passes, most_of}
use Rattle.access_promises.proofs.SocketsOnce.{once_each}
use Rattle.access_promises.proofs.attempts.tries_each_socket_in_turn.Goals as goal

pub returns-clause-order : goal.returns-clause-order
returns-clause-order x n last old new passes =
    let made = made_passes n last old new passes in
    ap attempts_in (added_is n (length old.topology.circuits) old new made) ∙ made.order

between_tries : (n last : ℕ) (old new : AccessValue) (before between after : List Entry) (first second : Entry) (s : CircuitSocket) → HasMadePasses n last old new
    → added old new ≡ before ++ first ∷ (between ++ second ∷ after) → (at_first : tried_at first ≡ Some s) → (at_second : tried_at second ≡ Some s) → times_of s (attempts_in between) ≡ 0
    → IsBetween (all_sockets (length old.topology.circuits)) (most_of (length old.topology.circuits)) (once_each (length old.topology.circuits)) s first second at_first at_second between
between_tries n last old new before between after first second s passes is at_first at_second none =
    let circuits = length old.topology.circuits in
    let made = made_passes n last old new passes in
    in_turn (all_sockets circuits) (most_of circuits) (once_each circuits) s first second at_first at_second n made.entries before between after made.blocks
    (sym (added_is n circuits old new made) ∙ is) none

pub returns-clause-one : goal.returns-clause-one
returns-clause-one x n last old new before between after first second s o passes is at_first at_second none =
    let lies = between_tries n last old new before between after first second s passes is at_first at_second none in
    let each = lies.each o in
    let frames = frames_at_attempts o between in
    omega (arith, each, frames)

pub returns-clause-few : goal.returns-clause-few
returns-clause-few x n last old new before between after first second s passes is at_first at_second none =
    let lies = between_tries n last old new before between after first second s passes is at_first at_second none in
    let few = lies.few in
    omega (arith, few)
