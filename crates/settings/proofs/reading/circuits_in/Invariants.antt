use Rattle.settings.specs.Tables.{circuit_entry}
use Rattle.settings.specs.Values.{IsCircuit}
use Rattle.settings.proofs.ReadLemmas.{ReadTo}
use Rattle.settings.proofs.reading.circuits_in.Given as goal

abbrev pub invariant-loop-i : goal.invariant-loop-i
invariant-loop-i l = ReadTo (IsCircuit l.relays) circuit_entry l.entries l.i l.circuits.items
