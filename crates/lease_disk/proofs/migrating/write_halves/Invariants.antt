use Rattle.lease_disk.proofs.Moved.{AreFirst}
use Rattle.lease_disk.proofs.migrating.write_halves.Given as goal

abbrev pub invariant-loop-slot : goal.invariant-loop-slot
invariant-loop-slot l = AreFirst l.slots l.slot l.halves
