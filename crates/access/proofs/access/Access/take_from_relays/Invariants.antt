use Rattle.std.proofs.Common.{◌≡◌, ◌≤◌, length}
use Rattle.access.specs.Access.{HasCarried}
use Rattle.access.specs.Turn.{InOrder, RelaySocket}
use Rattle.access.proofs.access.Access.take_from_relays.Given as goal

abbrev pub invariant-relays : goal.invariant-relays
invariant-relays l = record {
  index : l.index ≤ l.index-end;
  end : l.index-end ≡ length l.self.topology.relays;
  few : l.index-end ≤ 8;
  taken : l.taken ≤ l.index;
  same : l.self.topology ≡ l.fn.self.topology;
  port : l.self.port ≡ l.fn.self.port;
  so_far : HasCarried (InOrder (RelaySocket l.fn.self.topology l.fn.self.port) l.index) l.taken l.fn.self l.self;
}
