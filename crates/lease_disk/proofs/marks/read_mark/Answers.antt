use Rattle.lease_disk.specs.Layout.{with_halves}
use Rattle.lease_disk.proofs.Marking.{mark_first, mark_second}
use Rattle.lease_disk.proofs.marks.read_mark.Goals as goal

pub returns-then-counts_before : goal.returns-then-counts_before
returns-then-counts_before c = λ counted.
    mark_first (with_halves c.args.halves.now) c.args.slot _ _ c.half_of-first.ensures.bytes c.half_of-second.ensures.bytes _ c.if-counts_before.ensures c.mark_of.ensures

pub returns : goal.returns
returns c = λ counted.
    mark_second (with_halves c.args.halves.now) c.args.slot _ _ c.half_of-first.ensures.bytes c.half_of-second.ensures.bytes _ c.if-counts_before.ensures c.mark_of-2.ensures counted
