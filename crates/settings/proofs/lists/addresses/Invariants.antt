use Rattle.settings.proofs.EntryLemmas.{HasRead}
use Rattle.settings.proofs.lists.addresses.Given as goal

abbrev pub invariant-loop-entry : goal.invariant-loop-entry
invariant-loop-entry l = HasRead l.texts l.entry-index l.found.items
