use Rattle.settings.specs.Tables.{relay_entry}
use Rattle.settings.specs.Values.{IsRelay}
use Rattle.settings.proofs.ReadLemmas.{ReadTo}
use Rattle.settings.proofs.reading.relays_in.Given as goal

abbrev pub invariant-loop-i : goal.invariant-loop-i
invariant-loop-i l = ReadTo IsRelay relay_entry l.entries l.i l.relays.items
