use Rattle.std.proofs.Common.{◌≡◌, drop}
use Rattle.types.specs.Slots.{none_twice}
use Rattle.lease_disk.proofs.pool.has_no_twins.Given as goal

abbrev pub invariant-loop-i : goal.invariant-loop-i
invariant-loop-i g l = none_twice g.S.Slot.same_client l.slots ≡ none_twice g.S.Slot.same_client (drop l.i l.slots)
