use Rattle.std.proofs.Common.{◌≡◌, take}
use Rattle.bindings_v4.specs.Kept4.{kept_slots}
use Rattle.bindings_v4.proofs.kept.kept_slots.Given as goal

abbrev pub invariant-loop-i : goal.invariant-loop-i
invariant-loop-i l = l.slots ≡ kept_slots l.clock (take l.i l.holders)
