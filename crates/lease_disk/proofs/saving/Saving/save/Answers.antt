use Rattle.std.proofs.Common.{rules, refl, sym, ap, subst, ◌∙◌, ◌≡◌, ◌≤◌, ℕ, List, true, length}
use Rattle.std.specs.Prelude.{drop}
use Rattle.lease_disk.specs.declared.content.Content.{Content}
use Rattle.lease_disk.specs.declared.marks.Marks.{Marks}
use Rattle.lease_disk.specs.Keys.{HasKey}
use Rattle.lease_disk.specs.HalfBytes.{half_bytes}
use Rattle.lease_disk.specs.Layout.{half2, is_format2}
use Rattle.lease_disk.specs.Recovered.{next}
use Rattle.lease_disk.specs.Region.{IsClean, Region}
use Rattle.lease_disk.specs.Save.{Fits, IsMark, IsSaveOf, gate_at, mark_at, other}
use Rattle.lease_disk.proofs.Exits.{IsSave}
use Rattle.lease_disk.proofs.Halves.{counting_sequence}
use Rattle.lease_disk.proofs.SaveExits.{is_early, is_late, is_middle, is_none, is_some_early, is_some_late, is_some_middle, save_closing, save_done, save_opening, save_writing}
use Rattle.lease_disk.proofs.saving.Saving.save.Goals as goal

-- a mark's sequence is at most 2
few : (r : Region) (s : ℕ) (marks : Marks) → IsMark r.byte s (mark_at marks s) → (mark_at marks s).sequence ≤ 2
few r s marks mark = subst (λ n. n ≤ 2) (sym mark.sequence) (counting_sequence (half2 r.byte s (mark_at marks s).half) (half2 r.byte s (other (mark_at marks s).half)) mark.counting)

-- what the save is given
is_save : (r : Region) (s n clock : ℕ) (marks : Marks) (content : Content) (half : List ℕ) → is_format2 r.byte ≡ true → IsMark r.byte s (mark_at marks s) → IsClean r → half ≡ half_bytes n clock content → length half ≡ 256
    → ((mark_at marks s).sequence ≤ 2 → n ≡ next (mark_at marks s).sequence) → Fits s content → HasKey content → clock ≤ 1099511627775
    → IsSave s (mark_at marks s) (gate_at s (mark_at marks s)) n clock content half (drop 1 half) r
is_save r s n clock marks content half two mark clean whole size after fits key small = record {
  at_is = refl;
  two = two;
  mark_is = mark;
  clean = clean;
  whole_is = whole;
  size = size;
  bytes_are = refl;
  n_is = after;
  fits = fits;
  key = key;
  small = small;
}

pub returns-in_err-save_step-clause-saved : goal.returns-in_err-save_step-clause-saved
returns-in_err-save_step-clause-saved g c = λ tells.
    let r0 = (g.D.Disk.device c.args.disk.now).region c.args.self.now.region in
    let failing_call = (g.D.Disk.device c.args.disk.now).failing_call c.args.self.now.region in
    let left = (g.D.Disk.device c.save_step.new.disk).region c.args.self.now.region in
    let half = c.write_half-half.result.items in
    let answer = c.in_err-save_step.ensures.calls.answer tells in
    subst (λ k. IsSaveOf k c.args.self.now.clock c.args.self.now.slot c.args.self.now.content c.args.self.now.marks c.args.self.now.marks r0 left) (sym (is_early _ answer))
    (save_closing c.args.self.now.slot c.args.self.now.marks (gate_at c.args.self.now.slot (mark_at c.args.self.now.marks c.args.self.now.slot)) c.sequence_after.result c.args.self.now.clock c.args.self.now.content half (drop 1 half) r0
    (is_save r0 c.args.self.now.slot c.sequence_after.result c.args.self.now.clock c.args.self.now.marks c.args.self.now.content half (c.requires.format tells) (c.requires.mark tells) (c.requires.clean tells)
    c.write_half-half.ensures.bytes c.write_half-half.ensures.size c.sequence_after.ensures c.requires.fits c.write_half-half.ensures.key c.write_half-half.ensures.clock)
    failing_call left (is_some_early _ answer) answer (c.in_err-save_step.ensures.err tells) (c.in_err-save_step.ensures.reads tells))

pub returns-in_err-save_step-2-clause-saved : goal.returns-in_err-save_step-2-clause-saved
returns-in_err-save_step-2-clause-saved g c = λ tells.
    let r0 = (g.D.Disk.device c.args.disk.now).region c.args.self.now.region in
    let failing_call = (g.D.Disk.device c.args.disk.now).failing_call c.args.self.now.region in
    let left = (g.D.Disk.device c.save_step-2.new.disk).region c.args.self.now.region in
    let half = c.write_half-half.result.items in
    let answer = c.in_err-save_step-2.ensures.calls.answer tells in
    let later = c.in_ok-save_step.ensures.calls.failing_call tells in
    subst (λ k. IsSaveOf k c.args.self.now.clock c.args.self.now.slot c.args.self.now.content c.args.self.now.marks c.args.self.now.marks r0 left) (sym (is_middle failing_call _ later answer))
    (save_writing c.args.self.now.slot c.args.self.now.marks (gate_at c.args.self.now.slot (mark_at c.args.self.now.marks c.args.self.now.slot)) c.sequence_after.result c.args.self.now.clock c.args.self.now.content half (drop 1 half) r0
    (is_save r0 c.args.self.now.slot c.sequence_after.result c.args.self.now.clock c.args.self.now.marks c.args.self.now.content half (c.requires.format tells) (c.requires.mark tells) (c.requires.clean tells)
    c.write_half-half.ensures.bytes c.write_half-half.ensures.size c.sequence_after.ensures c.requires.fits c.write_half-half.ensures.key c.write_half-half.ensures.clock)
    ((g.D.Disk.device c.save_step.new.disk).region c.args.self.now.region) (c.in_ok-save_step.ensures.ok tells) failing_call _ left (is_some_middle failing_call _ later answer) later answer (c.in_err-save_step-2.ensures.err tells) (c.in_err-save_step-2.ensures.reads tells))

pub returns-in_err-save_step-3-clause-saved : goal.returns-in_err-save_step-3-clause-saved
returns-in_err-save_step-3-clause-saved g c = λ tells.
    let r0 = (g.D.Disk.device c.args.disk.now).region c.args.self.now.region in
    let failing_call = (g.D.Disk.device c.args.disk.now).failing_call c.args.self.now.region in
    let left = (g.D.Disk.device c.save_step-3.new.disk).region c.args.self.now.region in
    let half = c.write_half-half.result.items in
    let answer = c.in_err-save_step-3.ensures.calls.answer tells in
    let later = c.in_ok-save_step.ensures.calls.failing_call tells in
    let last = c.in_ok-save_step-2.ensures.calls.failing_call tells in
    subst (λ k. IsSaveOf k c.args.self.now.clock c.args.self.now.slot c.args.self.now.content c.args.self.now.marks c.args.self.now.marks r0 left) (sym (is_late failing_call _ _ later last answer))
    (save_opening c.args.self.now.slot c.args.self.now.marks (gate_at c.args.self.now.slot (mark_at c.args.self.now.marks c.args.self.now.slot)) c.sequence_after.result c.args.self.now.clock c.args.self.now.content half (drop 1 half) r0
    (is_save r0 c.args.self.now.slot c.sequence_after.result c.args.self.now.clock c.args.self.now.marks c.args.self.now.content half (c.requires.format tells) (c.requires.mark tells) (c.requires.clean tells)
    c.write_half-half.ensures.bytes c.write_half-half.ensures.size c.sequence_after.ensures c.requires.fits c.write_half-half.ensures.key c.write_half-half.ensures.clock)
    ((g.D.Disk.device c.save_step.new.disk).region c.args.self.now.region) (c.in_ok-save_step.ensures.ok tells) ((g.D.Disk.device c.save_step-2.new.disk).region c.args.self.now.region) (c.in_ok-save_step-2.ensures.ok tells)
    failing_call _ _ left (is_some_late failing_call _ _ later last answer) later last answer (c.in_err-save_step-3.ensures.err tells) (c.in_err-save_step-3.ensures.reads tells))

pub returns-clause-saved : goal.returns-clause-saved
returns-clause-saved g c = λ tells.
    let r0 = (g.D.Disk.device c.args.disk.now).region c.args.self.now.region in
    let failing_call = (g.D.Disk.device c.args.disk.now).failing_call c.args.self.now.region in
    let saved = (g.D.Disk.device c.save_step-3.new.disk).region c.args.self.now.region in
    let half = c.write_half-half.result.items in
    let small = few r0 c.args.self.now.slot c.args.self.now.marks (c.requires.mark tells) in
    let n = next (mark_at c.args.self.now.marks c.args.self.now.slot).sequence in
    subst (λ k. IsSaveOf k c.args.self.now.clock c.args.self.now.slot c.args.self.now.content c.args.self.now.marks c.turn.new.self r0 saved)
    (sym (is_none failing_call _ _ (c.in_ok-save_step.ensures.calls.failing_call tells) (c.in_ok-save_step-2.ensures.calls.failing_call tells) (c.in_ok-save_step.ensures.calls.answer tells) (c.in_ok-save_step-2.ensures.calls.answer tells) (c.in_ok-save_step-3.ensures.calls.answer tells)))
    (subst (λ (left : Marks). IsSaveOf 0 c.args.self.now.clock c.args.self.now.slot c.args.self.now.content c.args.self.now.marks left r0 saved) (sym (c.turn.ensures.after small))
    (save_done c.args.self.now.slot c.args.self.now.marks (gate_at c.args.self.now.slot (mark_at c.args.self.now.marks c.args.self.now.slot)) n c.args.self.now.clock c.args.self.now.content half (drop 1 half) r0
    (is_save r0 c.args.self.now.slot n c.args.self.now.clock c.args.self.now.marks c.args.self.now.content half (c.requires.format tells) (c.requires.mark tells) (c.requires.clean tells)
    (c.write_half-half.ensures.bytes ∙ ap (λ m. half_bytes m c.args.self.now.clock c.args.self.now.content) (c.sequence_after.ensures small)) c.write_half-half.ensures.size (λ s. refl) c.requires.fits c.write_half-half.ensures.key c.write_half-half.ensures.clock)
    ((g.D.Disk.device c.save_step.new.disk).region c.args.self.now.region) (c.in_ok-save_step.ensures.ok tells) ((g.D.Disk.device c.save_step-2.new.disk).region c.args.self.now.region) (c.in_ok-save_step-2.ensures.ok tells)
    saved (c.in_ok-save_step-3.ensures.ok tells) (other (mark_at c.args.self.now.marks c.args.self.now.slot).half) refl (search rules)))
