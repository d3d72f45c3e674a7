use Rattle.std.proofs.Common.{◌≡◌, length}
use Rattle.lease_disk.specs.Layout.{with_halves}
use Rattle.lease_disk.proofs.Marking.{AreSo}
use Rattle.lease_disk.proofs.marks.read_marks.Given as goal

abbrev pub invariant-loop-slot : goal.invariant-loop-slot
invariant-loop-slot l = record {
  size : length l.slots ≡ 32;
  so_far : AreSo (with_halves l.halves) l.slot l.slots;
}
