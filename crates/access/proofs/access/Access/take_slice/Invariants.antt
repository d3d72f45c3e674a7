use Rattle.std.proofs.Common.{◌≡◌, ◌≤◌, ◌+◌, ◌-◌, ℕ, length}
use Rattle.access.specs.Access.{HasCarried}
use Rattle.access.specs.Pass.{SocketsFrom}
use Rattle.access.proofs.access.Access.take_slice.Given as goal

-- the circuits so far
abbrev pub invariant-circuits : goal.invariant-circuits
invariant-circuits l = record {
  next : l.next ≤ l.end;
  end : l.end ≡ length l.fn.self.topology.circuits;
  same : l.self.topology ≡ l.fn.self.topology;
  few : l.frames ≤ 16;
  ahead : l.fn.from + l.frames ≤ l.next;
  so_far : (circuits : ℕ) × (l.next ≡ l.fn.from + circuits) × HasCarried (SocketsFrom l.fn.self.topology l.fn.proto l.fn.from circuits) l.frames l.fn.self l.self;
}

abbrev pub decreases-circuits : goal.decreases-circuits
decreases-circuits l = l.end - l.next
