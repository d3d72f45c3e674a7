use Rattle.std.proofs.Common.{◌≡◌, true, [], ◌∷◌, sym, subst}
use Rattle.lease_disk.specs.Layout.{is_format2}
use Rattle.lease_disk.specs.Region.{Region}
use Rattle.lease_disk.specs.Save.{AreMarks}
use Rattle.format_tests.proofs.stop_tests.stop.Goals as goal

pub keep-requires-clause-marks : goal.keep-requires-clause-marks
keep-requires-clause-marks c = subst (λ (r : Region). AreMarks (16 ∷ 16 ∷ []) r.byte c.args.marks.now) (sym c.fail_at.ensures.state) c.requires.marks

pub keep-requires-clause-format : goal.keep-requires-clause-format
keep-requires-clause-format c = subst (λ (r : Region). is_format2 r.byte ≡ true) (sym c.fail_at.ensures.state) c.requires.format
