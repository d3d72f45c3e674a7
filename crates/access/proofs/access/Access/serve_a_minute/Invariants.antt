use Rattle.std.proofs.Common.{◌≡◌, ◌≤◌, ◌+◌, ◌-◌, ℕ, Bool, true}
use Rattle.access.specs.Access.{StaysSetUp}
use Rattle.access.specs.Service.{IsStretch}
use Rattle.access.proofs.access.Access.serve_a_minute.Given as goal

abbrev pub invariant-passes : goal.invariant-passes
invariant-passes g l = record {
  some : 1 ≤ l.made;
  most : l.made ≤ l.fn.most;
  served : (last : ℕ) × IsStretch l.made l.first last l.fn.self l.self × (l.is_full ≡ true → l.first + 60 ≤ last);
  turns : l.self.turns ≡ l.fn.self.turns + l.made;
  set_up : StaysSetUp l.fn.self l.self;
  watched : (g.W.Watch.watched l.watch).rounds ≡ (g.W.Watch.watched l.fn.watch).rounds + l.made;
}

abbrev pub decreases-passes : goal.decreases-passes
decreases-passes g l = l.fn.most - l.made
