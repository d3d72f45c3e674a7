use Rattle.timers.proofs.DeadlineLemmas.{IsLook, swept, one_removed}
use Rattle.timers.proofs.deadlines.Deadlines.sweep.Goals as goal

pub loop-slot-preserved : goal.loop-slot-preserved
loop-slot-preserved c =
    let look : IsLook c.loop-slot.self c.due.new.self = record { slots = c.due.ensures.slots; examined = c.due.ensures.examined } in
    let due = c.in-Some.ensures.due in
    one_removed c.loop-slot.invariant look _ _ _ c.clear.ensures due.1 c.in-Some.ensures.within due.2

pub returns : goal.returns
returns c =
    let look : IsLook c.loop-slot.self c.due.new.self = record { slots = c.due.ensures.slots; examined = c.due.ensures.examined } in
    let all = swept c.loop-slot.invariant look c.in_default.ensures.none in
    record { slots = all.0; examined = all.1 }
