use Rattle.types.specs.Addr.{same_source}
use Rattle.lab_text.proofs.RelayLemmas.{NoneBefore}
use Rattle.lab_text.proofs.circuits.is_relay.Given as goal

abbrev pub invariant-relays : goal.invariant-relays
invariant-relays l = NoneBefore (λ relay. same_source l.source relay.source) l.config.relays l.index
