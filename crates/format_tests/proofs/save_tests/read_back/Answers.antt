use Rattle.std.proofs.Common.{◌≡◌, ◌<◌, ◌==◌, true, ℕ, length, slice_index, ◌∙◌, arith, List, [], ◌∷◌, Result, Ok, Err, IfOk, refl, sym, subst}
use Rattle.types.specs.declared.slots.Slots.{Slots}
use Rattle.lease_disk.specs.declared.marks.Marks.{Marks}
use Rattle.lease_disk.specs.declared.recovering.RecoverFault.{RecoverFault}
use Rattle.lease_disk.specs.Layout.{is_format2}
use Rattle.lease_disk.specs.Model.{disk_region}
use Rattle.lease_disk.specs.Recover.{Answers}
use Rattle.lease_disk.specs.Region.{Region, IsClean, IsRead}
use Rattle.lease_disk.specs.Save.{AreMarks}
use Rattle.format_tests.proofs.save_tests.read_back.Goals as goal

found_marks : (counts : List ℕ) (r : Region) (result : Result (Slots × Marks) RecoverFault) → is_format2 r.byte ≡ true → Answers counts r result → IfOk result (λ found. AreMarks counts r.byte found.1)
found_marks counts r (Ok found) two answers = answers.2 two
found_marks counts r (Err fault) two answers = tt

-- byte 8192 was read
two_read : (bytes : List ℕ) (r : Region) → IsRead r 0 bytes → length bytes ≡ 32768 → slice_index bytes 8192 ≡ 2 → is_format2 r.byte ≡ true
two_read bytes r read all two =
    let within : 8192 < length bytes = grind (arith, all) in
    let e : r.byte 8192 ≡ 2 = sym (read 8192 within) ∙ two in
    subst (λ (byte : ℕ). (byte == 2) ≡ true) (sym e) refl

format : (c : goal.After-recover) → is_format2 (disk_region c.args.disk.now 0).byte ≡ true
format c = two_read c.bytes.result.now (disk_region c.args.disk.now 0) c.bytes.ensures.bytes c.bytes.ensures.all c.if-bytes-ne-FORMAT.false

for_ok : {T E : Type 0} (result : Result T E) (p : T → Type 0) → ((x : T) → p x) → IfOk result p
for_ok (Ok x) p all = all x
for_ok (Err e) p all = tt

pub returns-clause-clean : goal.returns-clause-clean
returns-clause-clean c = subst (λ (state : ℕ → Region). IsClean (state 0)) (sym (c.recover.ensures.frame.region refl)) c.requires.clean

pub returns-clause-format : goal.returns-clause-format
returns-clause-format c = for_ok c.recover.result (λ found. is_format2 (disk_region c.recover.new.disk 0).byte ≡ true) (λ found. subst (λ (state : ℕ → Region). is_format2 (state 0).byte ≡ true) (sym (c.recover.ensures.frame.region refl)) (format c))

pub returns-clause-marks : goal.returns-clause-marks
returns-clause-marks c = subst (λ (state : ℕ → Region). IfOk c.recover.result (λ found. AreMarks (16 ∷ 16 ∷ []) (state 0).byte found.1)) (sym (c.recover.ensures.frame.region refl)) (found_marks (16 ∷ 16 ∷ []) (disk_region c.args.disk.now 0) c.recover.result (format c) (c.recover.ensures.answer refl))
