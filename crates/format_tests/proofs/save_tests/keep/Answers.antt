use Rattle.std.proofs.Common.{◌≡◌, ◌<◌, ◌≤◌, ℕ, true, [], ◌∷◌, refl, arith}
use Rattle.lease_disk.specs.declared.content.Content.{Content}
use Rattle.lease_disk.specs.declared.content.Content.TheVariants.{Four, Six}
use Rattle.lease_disk.specs.Save.{Fits, is_read}
use Rattle.lease_disk.proofs.SaveExits.{when_saved}
use Rattle.format_tests.proofs.save_tests.keep.Goals as goal

below4 : (s : ℕ) → s < 16 → is_read (16 ∷ 16 ∷ []) s ≡ true
below4 s few = grind (arith, few)

below6 : (s : ℕ) → 16 ≤ s → s < 32 → is_read (16 ∷ 16 ∷ []) s ≡ true
below6 s from few = grind (arith, from, few)

-- each slot that fits is below a pool's count
below : (s : ℕ) (content : Content) → Fits s content → is_read (16 ∷ 16 ∷ []) s ≡ true
below s (Four slot) few = below4 s few
below s (Six slot) fits = below6 s fits.0 fits.1

pub save-requires-clause-mark : goal.save-requires-clause-mark
save-requires-clause-mark c = λ tells. c.requires.marks c.args.change.now.slot (below c.args.change.now.slot c.args.change.now.content c.requires.fits)

pub returns-clause-marks : goal.returns-clause-marks
returns-clause-marks c = when_saved c.save.result _ (c.save.ensures.answer refl) (λ none. (c.save.ensures.saved refl).marks none (16 ∷ 16 ∷ []) c.requires.marks)
