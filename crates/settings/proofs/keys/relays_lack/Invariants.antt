use Rattle.std.proofs.Common.{◌↔◌}
use Rattle.toml.specs.View.{items_view}
use Rattle.settings.specs.Field.{each}
use Rattle.settings.specs.Keys.{AllThere, HasRelayKeys}
use Rattle.settings.specs.Tables.{relay_entry}
use Rattle.settings.proofs.EntryLemmas.{entries_from}
use Rattle.settings.proofs.keys.relays_lack.Given as goal

abbrev pub invariant-loop-i : goal.invariant-loop-i
invariant-loop-i l =
    AllThere HasRelayKeys (each relay_entry (items_view l.entries)) ↔ AllThere HasRelayKeys (entries_from relay_entry l.entries l.i)
