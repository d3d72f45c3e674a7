use Rattle.std.proofs.Common.{ℕ, ◌<◌}
use Rattle.sockets.specs.Warnings.{IsClients}
use Rattle.sockets.proofs.warnings.clients_at.Given as goal

abbrev pub invariant-circuits : goal.invariant-circuits
invariant-circuits l = record {
  none : (c : ℕ) → c < l.index → ¬ IsClients l.port l.circuits l.at c;
}
