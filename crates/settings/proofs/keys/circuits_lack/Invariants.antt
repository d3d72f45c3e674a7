use Rattle.std.proofs.Common.{◌↔◌}
use Rattle.toml.specs.View.{items_view}
use Rattle.settings.specs.Field.{each}
use Rattle.settings.specs.Keys.{AllThere, HasCircuitKeys}
use Rattle.settings.specs.Tables.{relay_entry, circuit_entry}
use Rattle.settings.proofs.EntryLemmas.{entries_from}
use Rattle.settings.proofs.keys.circuits_lack.Given as goal

abbrev pub invariant-loop-i : goal.invariant-loop-i
invariant-loop-i l =
    let keys = HasCircuitKeys (each relay_entry (items_view l.relays)) in
    AllThere keys (each circuit_entry (items_view l.entries)) ↔ AllThere keys (entries_from circuit_entry l.entries l.i)
