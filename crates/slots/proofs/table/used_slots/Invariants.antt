use Rattle.slots.specs.Used.{IsUsed}
use Rattle.slots.proofs.table.used_slots.Given as goal

abbrev pub invariant-slots : goal.invariant-slots
invariant-slots g l = IsUsed l.used l.slots

abbrev pub decreases-slots : goal.decreases-slots
decreases-slots g l = l.used
