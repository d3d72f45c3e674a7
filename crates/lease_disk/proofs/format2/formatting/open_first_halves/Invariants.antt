use Rattle.lease_disk.proofs.FormatLemmas.{AreOpen}
use Rattle.lease_disk.proofs.format2.formatting.open_first_halves.Given as goal

abbrev pub invariant-loop-slot : goal.invariant-loop-slot
invariant-loop-slot l = AreOpen l.slot l.bytes
