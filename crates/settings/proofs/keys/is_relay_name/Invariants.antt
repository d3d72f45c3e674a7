use Rattle.std.proofs.Common.{◌↔◌}
use Rattle.toml.specs.View.{items_view}
use Rattle.settings.specs.Field.{each}
use Rattle.settings.specs.Keys.{IsRelayName}
use Rattle.settings.specs.Tables.{relay_entry}
use Rattle.settings.proofs.EntryLemmas.{entries_from}
use Rattle.settings.proofs.keys.is_relay_name.Given as goal

abbrev pub invariant-loop-entry : goal.invariant-loop-entry
invariant-loop-entry l =
    IsRelayName (each relay_entry (items_view l.relays)) l.name ↔ IsRelayName (entries_from relay_entry l.relays l.entry-index) l.name
