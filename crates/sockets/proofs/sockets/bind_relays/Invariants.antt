use Rattle.std.proofs.Common.{◌≡◌, ◌≤◌, length, map}
use Rattle.config.specs.Rules.{IsSound}
use Rattle.sockets.specs.Sockets.{AreRelaySockets}
use Rattle.sockets.proofs.sockets.bind_relays.Given as goal

abbrev pub invariant-relays : goal.invariant-relays
invariant-relays g l = record {
  index : l.index ≤ l.index-end;
  end : l.index-end ≡ length l.config.relays;
  sound : IsSound l.config;
  count : length l.relays.items ≡ l.index;
  own : AreRelaySockets (map (λ relay. relay.source) l.config.relays) l.fn.history.id l.relays.items;
  same : l.history.id ≡ l.fn.history.id;
  silent : l.history.entries ≡ l.fn.history.entries;
}
