use Rattle.std.proofs.Common.{◌≡◌, ◌≤◌, ◌*◌, length}
use Rattle.access.specs.Access.{HasCarried}
use Rattle.access.specs.Pass.{IsEmptied}
use Rattle.access.specs.Turn.{InOrder}
use Rattle.access.proofs.access.Access.empty_relays.Given as goal

abbrev pub invariant-relays : goal.invariant-relays
invariant-relays l = record {
  index : l.index ≤ l.index-end;
  end : l.index-end ≡ length l.self.topology.relays;
  few : l.index-end ≤ 8;
  taken : l.taken ≤ 32 * l.index;
  same : l.self.topology ≡ l.fn.self.topology;
  port : l.self.port ≡ l.fn.self.port;
  so_far : HasCarried (InOrder (IsEmptied l.fn.self.topology l.fn.self.port) l.index) l.taken l.fn.self l.self;
}
