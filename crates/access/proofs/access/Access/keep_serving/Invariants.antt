use Rattle.std.proofs.Common.{◌≡◌, ◌≤◌, ◌+◌, ◌-◌}
use Rattle.access.specs.Access.{StaysSetUp}
use Rattle.access.proofs.ServiceLemmas.{some_minutes}
use Rattle.access.proofs.access.Access.keep_serving.Given as goal

abbrev pub invariant-minutes : goal.invariant-minutes
invariant-minutes g l = record {
  most : l.made ≤ l.fn.passes;
  served : some_minutes l.made l.fn.self l.self;
  turns : l.self.turns ≡ l.fn.self.turns + l.made;
  set_up : StaysSetUp l.fn.self l.self;
  watched : (g.W.Watch.watched l.watch).rounds ≡ (g.W.Watch.watched l.fn.watch).rounds + l.made;
}

abbrev pub decreases-minutes : goal.decreases-minutes
decreases-minutes g l = l.fn.passes - l.made
