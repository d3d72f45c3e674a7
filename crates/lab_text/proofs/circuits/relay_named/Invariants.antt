use Rattle.std.specs.Str.{bytes_eq}
use Rattle.lab_text.proofs.RelayLemmas.{LacksBefore}
use Rattle.lab_text.proofs.circuits.relay_named.Given as goal

abbrev pub invariant-relays : goal.invariant-relays
invariant-relays l = LacksBefore (λ relay. bytes_eq relay.name.items l.name) l.config.relays l.index
