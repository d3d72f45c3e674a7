use Rattle.std.proofs.Common.{◌≡◌, ◌<◌, ◌≤◌, ◌==◌, ℕ, Bool, true, false, [], ◌∷◌, suc, zero, length, take, refl, sym, ap, ◌∙◌, arith, subst}
use Rattle.lease_disk.specs.declared.content.Content.{Content}
use Rattle.lease_disk.specs.declared.content.Content.TheVariants.{Four, Six}
use Rattle.lease_disk.specs.declared.marks.Marks.{Marks}
use Rattle.lease_disk.specs.declared.saving.Saving.{Saving}
use Rattle.lease_disk.specs.Crash.{formatted_region}
use Rattle.lease_disk.specs.Device.{Device}
use Rattle.lease_disk.specs.Model.{ModelDiskValue, SameBut, device_of, region_of, disk_region}
use Rattle.lease_disk.specs.Region.{Region, IsClean}
use Rattle.lease_disk.specs.Layout.{is_format2}
use Rattle.lease_disk.specs.Save.{AreMarks, Fits, IsMark, is_read, mark_at}
use Rattle.batch_saves.specs.Batch.{IsReady, part_at}
use Rattle.format_tests.proofs.batch_tests.batch.Goals as goal

below4 : (s : ℕ) → s < 16 → is_read (16 ∷ 16 ∷ []) s ≡ true
below4 s few = grind (arith, few)

below6 : (s : ℕ) → 16 ≤ s → s < 32 → is_read (16 ∷ 16 ∷ []) s ≡ true
below6 s from few = grind (arith, from, few)

below : (s : ℕ) (content : Content) → Fits s content → is_read (16 ∷ 16 ∷ []) s ≡ true
below s (Four slot) few = below4 s few
below s (Six slot) fits = below6 s fits.0 fits.1

-- setting a fault changes no region
kept : (r : ℕ) (old new : ModelDiskValue) → disk_region new r ≡ disk_region old r → SameBut r old new → (q : ℕ) → disk_region new q ≡ disk_region old q
kept r old new here others q = by (q == r) refl where
  by : (b : Bool) → (q == r) ≡ b → disk_region new q ≡ disk_region old q
  by true e = let is : q ≡ r = grind (arith, e) in ap (disk_region new) is ∙ here ∙ ap (disk_region old) (sym is)
  by false e = ap region_of (others.others q (λ is. absurd (grind (arith, e, is))))

is_ready : (device : Device) (marks : Marks) (p : Saving) → device.count ≡ 3 → p.region < 3 → ((q : ℕ) → q < 3 → device.region q ≡ formatted_region) → AreMarks (16 ∷ 16 ∷ []) formatted_region.byte marks
    → p.marks ≡ marks → p.failed ≡ 0 → Fits p.slot p.content → IsReady true device p
is_ready device marks p count within formatted are marks_are fresh fits = record {
  fresh = fresh;
  save = record {
    exists = subst (λ n. p.region < n) (sym count) within;
    fits = fits;
    format = λ t. subst (λ (r : Region). is_format2 r.byte ≡ true) (sym (formatted p.region within)) refl;
    clean = λ t. subst (λ (r : Region). IsClean r) (sym (formatted p.region within)) (record { each = λ i. refl });
    mark = λ t. subst (λ (r : Region). IsMark r.byte p.slot (mark_at p.marks p.slot)) (sym (formatted p.region within))
        (subst (λ (m : Marks). IsMark formatted_region.byte p.slot (mark_at m p.slot)) (sym marks_are) (are p.slot (below p.slot p.content fits)));
  };
}

module _ (device : Device) (a b c : Saving) (ready_a : IsReady true device a) (ready_b : IsReady true device b) (ready_c : IsReady true device c) where
  last : (n i : ℕ) → i < length (take n (c ∷ [])) → IsReady true device (part_at (take n (c ∷ [])) i)
  last zero i within = absurd (omega (arith, within))
  last (suc n) zero within = ready_c
  last (suc zero) (suc i) within = absurd (omega (arith, within))
  last (suc (suc n)) (suc i) within = absurd (omega (arith, within))

  two : (n i : ℕ) → i < length (take n (b ∷ c ∷ [])) → IsReady true device (part_at (take n (b ∷ c ∷ [])) i)
  two zero i within = absurd (omega (arith, within))
  two (suc n) zero within = ready_b
  two (suc n) (suc i) within = last n i (omega (arith, within))

  all : (n i : ℕ) → i < length (take n (a ∷ b ∷ c ∷ [])) → IsReady true device (part_at (take n (a ∷ b ∷ c ∷ [])) i)
  all zero i within = absurd (omega (arith, within))
  all (suc n) zero within = ready_a
  all (suc n) (suc i) within = two n i (omega (arith, within))

pub save_many-requires-clause-ready : goal.save_many-requires-clause-ready
save_many-requires-clause-ready g c =
    let disk = c.fail_at-3.new.self in
    let count = c.fail_at-3.ensures.others.count ∙ c.fail_at-2.ensures.others.count ∙ c.fail_at.ensures.others.count ∙ c.formatted_regions-disk.ensures.count in
    let formatted : (q : ℕ) → q < 3 → disk_region disk q ≡ formatted_region = λ q within.
    kept 2 c.fail_at-2.new.self c.fail_at-3.new.self c.fail_at-3.ensures.state c.fail_at-3.ensures.others q
    ∙ kept 1 c.fail_at.new.self c.fail_at-2.new.self c.fail_at-2.ensures.state c.fail_at-2.ensures.others q
    ∙ kept 0 c.formatted_regions-disk.result.0 c.fail_at.new.self c.fail_at.ensures.state c.fail_at.ensures.others q
    ∙ c.formatted_regions-disk.ensures.formatted q within in
    let one = is_ready (device_of disk) c.formatted_regions-disk.result.1 in
    all (device_of disk) c.part.result c.part-2.result c.part-3.result
    (one c.part.result count (omega (arith, c.part.ensures.region)) formatted c.formatted_regions-disk.ensures.marks c.part.ensures.marks c.part.ensures.fresh c.part.ensures.fits)
    (one c.part-2.result count (omega (arith, c.part-2.ensures.region)) formatted c.formatted_regions-disk.ensures.marks c.part-2.ensures.marks c.part-2.ensures.fresh c.part-2.ensures.fits)
    (one c.part-3.result count (omega (arith, c.part-3.ensures.region)) formatted c.formatted_regions-disk.ensures.marks c.part-3.ensures.marks c.part-3.ensures.fresh c.part-3.ensures.fits)
    c.args.n
