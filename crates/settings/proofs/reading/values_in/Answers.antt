use Rattle.std.proofs.Common.{List, subst}
use Rattle.std.specs.Prelude.{All}
use Rattle.toml.specs.View.{items_view, table_view}
use Rattle.settings.specs.declared.settings.RelayConfig.{RelayConfig}
use Rattle.settings.specs.Settings.{IsWithinLimits}
use Rattle.settings.proofs.ReadLemmas.{all_circuits_within, all_relays_within}
use Rattle.settings.proofs.reading.values_in.Goals as goal

pub returns-in-Err-relays_in-clause-unread : goal.returns-in-Err-relays_in-clause-unread
returns-in-Err-relays_in-clause-unread c = c.in-Err-relays_in.ensures.unread (table_view c.args.server.now) (items_view c.args.circuits.now)

pub returns-in-Err-circuits_in-clause-unread : goal.returns-in-Err-circuits_in-clause-unread
returns-in-Err-circuits_in-clause-unread c = c.in-Err-circuits_in.ensures.unread (table_view c.args.server.now) (items_view c.args.relays.now)

pub returns-clause-relays : goal.returns-clause-relays
returns-clause-relays c = all_relays_within _ c.in-Ok-relays_in.relays.items c.in-Ok-relays_in.ensures.read

pub returns-clause-circuits : goal.returns-clause-circuits
returns-clause-circuits c =
    let within = all_circuits_within c.deref.result.now _ c.in-Ok-circuits_in.circuits.items c.in-Ok-circuits_in.ensures.read in
    subst (λ (rs : List RelayConfig). All (IsWithinLimits rs) c.in-Ok-circuits_in.circuits.items) c.deref.ensures.value within
