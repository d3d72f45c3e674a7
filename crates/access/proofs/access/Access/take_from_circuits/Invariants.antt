use Rattle.std.proofs.Common.{◌≡◌, ◌≤◌, ◌*◌, length}
use Rattle.types.specs.declared.dest.Proto.TheVariants.{V4, V6}
use Rattle.access.specs.Access.{HasCarried}
use Rattle.access.specs.Turn.{Both, CircuitSocket, InOrder}
use Rattle.access.proofs.access.Access.take_from_circuits.Given as goal

abbrev pub invariant-circuits : goal.invariant-circuits
invariant-circuits l = record {
  index : l.index ≤ l.index-end;
  end : l.index-end ≡ length l.self.topology.circuits;
  few : l.index-end ≤ 1024;
  taken : l.taken ≤ 2 * l.index;
  same : l.self.topology ≡ l.fn.self.topology;
  so_far : HasCarried (InOrder (λ c. Both (CircuitSocket l.fn.self.topology c V4) (CircuitSocket l.fn.self.topology c V6)) l.index) l.taken l.fn.self l.self;
}
