use Rattle.std.proofs.Common.{◌≡◌, ◌+◌, ◌-◌, ap, arith, ◌∙◌, take, drop, slice_index}
use Rattle.lease_disk.proofs.Reading.{half_bytes_at}
use Rattle.lease_disk.proofs.read_half.half_of.Goals as goal

pub returns-clause-bytes : goal.returns-clause-bytes
returns-clause-bytes c =
    let at = c.at-at.result in
    let size : at + 256 - at ≡ 256 = omega arith in
    ap (λ n. slice_index (take n (drop at c.args.halves.now))) size ∙ half_bytes_at c.args.halves.now c.args.slot c.args.which at c.at-at.ensures.place (omega (arith, c.at-at.ensures.most, c.requires.all))
