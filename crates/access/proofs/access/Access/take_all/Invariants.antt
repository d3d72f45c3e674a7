use Rattle.std.proofs.Common.{◌≡◌, ◌≤◌, ◌-◌, length}
use Rattle.access.proofs.PassLemmas.{HasSlicesSoFar}
use Rattle.access.proofs.access.Access.take_all.Given as goal

abbrev pub invariant-slices : goal.invariant-slices
invariant-slices l = record {
  next : l.next ≤ l.end;
  end : l.end ≡ length l.fn.self.topology.circuits;
  same : l.self.topology ≡ l.fn.self.topology;
  so_far : HasSlicesSoFar l.fn.now l.fn.proto l.next l.taken l.fn.self l.self;
}

abbrev pub decreases-slices : goal.decreases-slices
decreases-slices l = l.end - l.next
