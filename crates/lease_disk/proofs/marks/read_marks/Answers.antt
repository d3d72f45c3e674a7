use Rattle.std.proofs.Common.{refl, arith, rules}
use Rattle.lease_disk.specs.Layout.{with_halves}
use Rattle.lease_disk.proofs.Marking.{first_so, one_more, all_so}
use Rattle.lease_disk.proofs.marks.read_marks.Goals as goal

pub loop-slot-init : goal.loop-slot-init
loop-slot-init c = record {
  size = refl;
  so_far = first_so (with_halves c.args.halves.now) _ c.read_mark-slots.result (λ d. refl) c.read_mark-slots.ensures;
}

pub loop-slot-preserved : goal.loop-slot-preserved
loop-slot-preserved c = record {
  size = search rules;
  so_far = one_more (with_halves c.args.halves.now) c.loop-slot.slot c.loop-slot.slots c.read_mark.result (omega (arith, c.loop-slot.invariant.size, c.loop-slot-test.true)) c.read_mark.ensures c.loop-slot.invariant.so_far;
}

pub returns : goal.returns
returns c = λ s few counted.
    all_so (with_halves c.args.halves.now) c.loop-slot.slot c.loop-slot.slots (omega (arith, c.loop-slot-test.false)) c.loop-slot.invariant.so_far s few counted _
