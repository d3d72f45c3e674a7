use Rattle.std.proofs.Common.{◌≡◌, ◌≤◌, ◌+◌}
use Rattle.access.specs.Access.{HasServedTurns, StayClosed, StaysSetUp}
use Rattle.access.specs.Service.{IsWatched}
use Rattle.access.proofs.access.Access.serve.Given as goal

abbrev pub invariant-turns : goal.invariant-turns
invariant-turns g l = record {
  counter : l.counter ≤ l.turns;
  turns : l.self.turns ≡ l.fn.self.turns + l.counter;
  set_up : StaysSetUp l.fn.self l.self;
  turned : HasServedTurns l.counter l.now l.fn.self l.self;
  watched : IsWatched l.counter l.now (g.W.Watch.watched l.fn.watch) (g.W.Watch.watched l.watch);
  closed : StayClosed l.fn.self.server l.self.server;
}
