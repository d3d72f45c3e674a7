use Rattle.std.proofs.Common.{◌≡◌, map, length}
use Rattle.circuit_server.specs.Ticked.{state_at}
use Rattle.dispatch.specs.Turned.{AreTurned, turns_off}
use Rattle.dispatch.proofs.TurnedLemmas.{so_far}
use Rattle.dispatch.proofs.circuit_servers.turn_off_all.Given as goal

abbrev pub invariant-circuits : goal.invariant-circuits
invariant-circuits l = record {
  end : l.index-end ≡ length l.circuits.circuits;
  turned : AreTurned (so_far (turns_off l.circuits l.plan) l.index) (map (state_at l.ticked) l.fn.servers) (map (state_at l.ticked) l.servers) l.fn.table l.table;
}
