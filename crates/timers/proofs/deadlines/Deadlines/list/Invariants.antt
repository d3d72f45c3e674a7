use Rattle.std.proofs.Common.{◌≡◌, take}
use Rattle.timers.proofs.deadlines.Deadlines.list.Given as goal

abbrev pub invariant-slots : goal.invariant-slots
invariant-slots l = l.list.items ≡ take l.slot l.self.slots
