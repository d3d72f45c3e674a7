use Rattle.std.proofs.Common.{◌≡◌, ◌≤◌, ◌<◌, ◌+◌, ◌*◌, length, map}
use Rattle.std.specs.Prelude.{All}
use Rattle.config.specs.CircuitPart.{parts_of}
use Rattle.sockets.specs.Sockets.{AreOwnSockets}
use Rattle.sockets.proofs.sockets.bind_circuits.Given as goal

abbrev pub invariant-circuits : goal.invariant-circuits
invariant-circuits g l = record {
  index : l.index ≤ l.index-end;
  end : l.index-end ≡ length l.config.circuits;
  few : length l.config.circuits ≤ 1024;
  ports : l.port + 4 * length l.config.circuits ≤ 65536;
  count : length l.circuits.items ≡ l.index;
  behind : All (λ circuit. circuit.relay < length l.config.relays) l.circuits.items;
  own : AreOwnSockets (map (λ relay. relay.source) l.config.relays) l.port l.fn.history.id (parts_of l.config) l.circuits.items;
  same : l.history.id ≡ l.fn.history.id;
  silent : l.history.entries ≡ l.fn.history.entries;
}
