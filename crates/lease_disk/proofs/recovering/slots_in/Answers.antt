use Rattle.std.proofs.Common.{sym, ◌≡◌, ◌∙◌, arith, true, false, slice_index}
use Rattle.lease_disk.specs.Layout.{is_format2}
use Rattle.lease_disk.proofs.Reading.{are_halves1, are_halves2, not_two, recovered_as}
use Rattle.lease_disk.proofs.recovering.slots_in.Goals as goal

pub returns-then-format-ne-FORMAT-clause-slots : goal.returns-then-format-ne-FORMAT-clause-slots
returns-then-format-ne-FORMAT-clause-slots c =
    let region = slice_index c.args.bytes.now in
    let one : is_format2 region ≡ false = not_two (region 8192) c.if-format-ne-FORMAT.true in
    c.read_region_slots.ensures.slots ∙ recovered_as c.args.counts region c.halves_of_banks.result false (sym one) (are_halves1 region c.halves_of_banks.result one c.halves_of_banks.ensures)

pub returns-clause-slots : goal.returns-clause-slots
returns-clause-slots c =
    let region = slice_index c.args.bytes.now in
    let two : is_format2 region ≡ true = grind (arith, c.if-format-ne-FORMAT.false) in
    c.read_region_slots-2.ensures.slots ∙ recovered_as c.args.counts region c.halves_in.result.now true (sym two) (are_halves2 region c.halves_in.result.now two c.halves_in.ensures.halves c.halves_in.ensures.all)
