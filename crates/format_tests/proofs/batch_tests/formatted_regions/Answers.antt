use Rattle.std.proofs.Common.{◌≡◌, ℕ, true, [], ◌∷◌, Result, Ok, refl, ap, ◌∙◌, arith, subst, sym}
use Rattle.types.specs.declared.slots.Slots.{Slots}
use Rattle.lease_disk.specs.declared.marks.Marks.{Marks}
use Rattle.lease_disk.specs.declared.recovering.RecoverFault.{RecoverFault}
use Rattle.lease_disk.specs.Layout.{is_format2}
use Rattle.lease_disk.specs.Model.{disk_region}
use Rattle.lease_disk.specs.Recover.{Answers}
use Rattle.lease_disk.specs.Region.{Region}
use Rattle.lease_disk.specs.Save.{AreMarks}
use Rattle.format_tests.proofs.batch_tests.formatted_regions.Goals as goal

found_marks : (r : Region) (result : Result (Slots × Marks) RecoverFault) (found : Slots × Marks) → result ≡ Ok found → is_format2 r.byte ≡ true → Answers (16 ∷ 16 ∷ []) r result → AreMarks (16 ∷ 16 ∷ []) r.byte found.1
found_marks r result found e two answers = (subst (λ (some : Result (Slots × Marks) RecoverFault). Answers (16 ∷ 16 ∷ []) r some) e answers).2 two

pub returns-clause-formatted : goal.returns-clause-formatted
returns-clause-formatted g c = λ q below. ap (λ (state : ℕ → Region). state q) (c.recover.ensures.frame.region refl) ∙ c.new_disk-disk.ensures.formatted q below

pub returns-clause-marks : goal.returns-clause-marks
returns-clause-marks g c =
    let is = c.new_disk-disk.ensures.formatted 0 (omega arith) in
    subst (λ (r : Region). AreMarks (16 ∷ 16 ∷ []) r.byte c.expect.result.1) is
    (found_marks (disk_region c.new_disk-disk.result 0) c.recover.result c.expect.result c.expect.ensures (subst (λ (r : Region). is_format2 r.byte ≡ true) (sym is) refl) (c.recover.ensures.answer refl))
