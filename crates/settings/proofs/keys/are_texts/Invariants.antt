use Rattle.std.proofs.Common.{◌↔◌}
use Rattle.std.specs.Prelude.{⊤}
use Rattle.toml.specs.View.{items_view}
use Rattle.settings.specs.Field.{each, text_of}
use Rattle.settings.specs.Keys.{AllThere}
use Rattle.settings.proofs.EntryLemmas.{entries_from}
use Rattle.settings.proofs.keys.are_texts.Given as goal

abbrev pub invariant-loop-entry : goal.invariant-loop-entry
invariant-loop-entry l =
    AllThere (λ _. ⊤) (each text_of (items_view l.entries)) ↔ AllThere (λ _. ⊤) (entries_from text_of l.entries l.entry-index)
