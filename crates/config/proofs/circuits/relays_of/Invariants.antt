use Rattle.std.proofs.Common.{◌≡◌, map, take}
use Rattle.config.proofs.circuits.relays_of.Given as goal

abbrev pub invariant-relays : goal.invariant-relays
invariant-relays l = l.sources.items ≡ map (λ relay. relay.source) (take l.index l.config.relays)
