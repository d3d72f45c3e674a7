use Rattle.std.proofs.Common.{◌≡◌, ◌≤◌, ◌+◌, ℕ}
use Rattle.access.specs.Access.{StayClosed, StaysSetUp}
use Rattle.access.specs.Pass.{HasMadePasses}
use Rattle.access.specs.Service.{IsWatched}
use Rattle.access.proofs.access.Access.serve_passes.Given as goal

abbrev pub invariant-passes : goal.invariant-passes
invariant-passes g l = record {
  counter : l.counter ≤ l.passes;
  turns : l.self.turns ≡ l.fn.self.turns + l.counter;
  set_up : StaysSetUp l.fn.self l.self;
  passed : (now : ℕ) × HasMadePasses l.counter now l.fn.self l.self × IsWatched l.counter now (g.W.Watch.watched l.fn.watch) (g.W.Watch.watched l.watch);
  closed : StayClosed l.fn.self.server l.self.server;
}
