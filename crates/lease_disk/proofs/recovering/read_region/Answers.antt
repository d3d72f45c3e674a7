use Rattle.std.proofs.Common.{◌≡◌, ℕ, List, sym, subst, ◌∙◌}
use Rattle.lease_disk.specs.Halves.{AreHalves}
use Rattle.lease_disk.specs.Layout.{with_halves}
use Rattle.lease_disk.specs.Region.{Region}
use Rattle.lease_disk.proofs.Marking.{read_counted}
use Rattle.lease_disk.proofs.Reading.{counted_as, meant2, recovered_as}
use Rattle.lease_disk.proofs.recovering.read_region.Goals as goal

-- the halves of the region, though the device was called in between
are_still : (old new : ℕ → Region) (r : ℕ) (halves : List ℕ) → new ≡ old → AreHalves halves (new r).byte → AreHalves halves (old r).byte
are_still old new r halves same are = subst (λ (regions : ℕ → Region). AreHalves halves (regions r).byte) same are

pub returns-in_default-clause-slots : goal.returns-in_default-clause-slots
returns-in_default-clause-slots g c = λ tells.
    let old = (g.D.Disk.device c.args.disk.now).region in
    let are = are_still old (g.D.Disk.device c.has_format2.new.disk).region c.args.region c.in_ok-halves.halves (c.in_ok-is_format2.ensures.frame.region tells) (c.in_ok-halves.ensures.halves tells) in
    sym (recovered_as c.args.counts (old c.args.region).byte c.in_ok-halves.halves c.in_ok-is_format2.is_format2 (c.in_ok-is_format2.ensures.format tells) are) ∙ sym c.in_default.ensures.slots

pub returns-clause-slots : goal.returns-clause-slots
returns-clause-slots g c = λ tells.
    let old = (g.D.Disk.device c.args.disk.now).region in
    let are = are_still old (g.D.Disk.device c.has_format2.new.disk).region c.args.region c.in_ok-halves.halves (c.in_ok-is_format2.ensures.frame.region tells) (c.in_ok-halves.ensures.halves tells) in
    sym (recovered_as c.args.counts (old c.args.region).byte c.in_ok-halves.halves c.in_ok-is_format2.is_format2 (c.in_ok-is_format2.ensures.format tells) are) ∙ sym c.in-Some.ensures.slots

pub returns-clause-marks : goal.returns-clause-marks
returns-clause-marks g c = λ tells two s below.
    let old = (g.D.Disk.device c.args.disk.now).region in
    let are = are_still old (g.D.Disk.device c.has_format2.new.disk).region c.args.region c.in_ok-halves.halves (c.in_ok-is_format2.ensures.frame.region tells) (c.in_ok-halves.ensures.halves tells) in
    let format = c.in_ok-is_format2.ensures.format tells ∙ two in
    let counted = read_counted c.args.counts (with_halves c.in_ok-halves.halves) c.in-Some.slots (meant2 c.args.counts c.in_ok-halves.halves c.in_ok-is_format2.is_format2 c.in-Some.slots format (sym c.in-Some.ensures.slots)) s below in
    counted_as (old c.args.region).byte c.in_ok-halves.halves two are s _ counted.0 (c.read_marks.ensures s counted.0 counted.1)
