use Rattle.std.proofs.Common.{◌≡◌, ◌≤◌, length}
use Rattle.access.proofs.ServiceLemmas.{HasReopenedTo}
use Rattle.access.proofs.access.Access.reopen_closed.Given as goal

abbrev pub invariant-circuits : goal.invariant-circuits
invariant-circuits g l = record {
  index : l.index ≤ l.index-end;
  end : l.index-end ≡ length l.fn.self.server.topology.circuits;
  so_far : HasReopenedTo l.index l.fn.self l.self;
  watched : g.W.Watch.watched l.watch ≡ g.W.Watch.watched l.fn.watch;
}
