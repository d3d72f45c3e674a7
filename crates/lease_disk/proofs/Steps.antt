-- What a crash leaves after each step of a save.
use Rattle.std.proofs.Common.{◌≡◌, ℕ, ◌+◌, ◌-◌, ◌<◌, ◌≤◌, Bool, true, false, nat_le, nat_lt, suc, zero, List, [], ◌∷◌, length, slice_index, Option, Some, refl, sym, ap, ◌∙◌, arith}
use Rattle.std.specs.Prelude.{if◌then◌else◌, ◌==◌, drop}
use Rattle.std.proofs.lemmas.List.{get_or_past}
use Rattle.types.specs.declared.slot4.Slot4.TheVariants as S4
use Rattle.types.specs.declared.slot6.Slot6.TheVariants as S6
use Rattle.types.specs.declared.slots.Slots.{Slots}
use Rattle.types.specs.Slots.{IsWithin4, IsWithin6}
use Rattle.lease_disk.specs.declared.content.Content.{Content}
use Rattle.lease_disk.specs.declared.content.Content.TheVariants.{Four, Six}
use Rattle.lease_disk.specs.declared.half.Half.{Half}
use Rattle.lease_disk.specs.declared.marks.Mark.{Mark}
use Rattle.lease_disk.specs.HalfBytes.{half_bytes}
use Rattle.lease_disk.specs.Keys.{HasKey}
use Rattle.lease_disk.specs.Layout.{gate_open, half_at, half2, is_format2}
use Rattle.lease_disk.specs.Recovered.{is_open, sequence, next, is_counting, last_clock, slot4_of, slot6_of, held, recovered}
use Rattle.lease_disk.specs.Region.{Region, is_within, written, synced, effective, IsCrash, IsClean, IsTorn}
use Rattle.lease_disk.specs.Save.{Fits, IsChange, IsLeft, IsMark, other, with_slot}
use Rattle.lease_disk.proofs.Changes.{book_alike, changed4, changed6, here4, here6}
use Rattle.lease_disk.proofs.Halves.{SameBut, as_format2, entry2, recovered2, but_both, is_below, is_above, is_inside, same_own, same_format, other_other, entry_by, entry_elsewhere, entries_stay, while_shut, while_closing, when_open, counting_open}
use Rattle.lease_disk.proofs.ReadBack.{held4, held6}

-- which call failed

pub early : (k : ℕ) → false ≡ (effective 2 k == 0) → nat_le 5 k ≡ false
early k e = grind arith

pub middle : (k : ℕ) → false ≡ (effective 2 (k - 2) == 0) → nat_le 5 k ≡ false
middle k e = grind arith

pub late : (k : ℕ) → false ≡ (effective 2 (k - 2 - 2) == 0) → nat_le 5 k ≡ true
late k e = grind arith

not_late : (k : ℕ) → nat_le 5 k ≡ false → 5 ≤ k → ⊥
not_late k e h = grind arith

-- outside a range in doubt a crash leaves what was there
pub outside : (at n : ℕ) (old new : Region) (f : ℕ → ℕ) → IsClean old → IsTorn at n old new → IsCrash new f → (i : ℕ) → is_within at n i ≡ false → f i ≡ old.byte i
outside at n old new f clean torn crash i h =
    let u : new.unsynced i ≡ false = torn.unsynced i ∙ rw (h, clean.each i) refl in
    crash.same i u ∙ torn.byte i h

narrow : (at n m i : ℕ) → n ≤ m → is_within at m i ≡ false → is_within at n i ≡ false
narrow at n m i h e = grind (arith, e)

narrow_behind : (at i : ℕ) → is_within at 256 i ≡ false → is_within (at + 1) 255 i ≡ false
narrow_behind at i e = grind (arith, e)

-- What a region recovers to

pub same_recovered : (counts : List ℕ) (s : ℕ) (h : Half) (f g : ℕ → ℕ) → SameBut s (other h) f g → is_counting (half2 f s h) (half2 f s (other h)) ≡ true → is_counting (half2 g s h) (half2 g s (other h)) ≡ true → recovered2 counts g ≡ recovered2 counts f
unfolding recovered2
same_recovered counts s h f g same p q =
    book_alike counts (Some 0) (entry2 slot4_of f) (entry2 slot4_of g) (entry2 slot6_of f) (entry2 slot6_of g)
    (λ j l. entries_stay slot4_of s h f g same p q j) (λ j l. entries_stay slot6_of s h f g same p q j)

-- what is written, and that it is a change
pub record IsNew (counts : List ℕ) (s clock n : ℕ) (content : Content) (slots : Slots) (f : ℕ → ℕ) : Type 0 where
  pub fits : Fits s content
  pub key : HasKey content
  pub small : clock ≤ last_clock
  pub was : recovered2 counts f ≡ Some slots
  pub change : IsChange counts clock s content slots

pub new_recovered : (counts : List ℕ) (s : ℕ) (o : Half) (clock n : ℕ) (content : Content) (slots : Slots) (f g : ℕ → ℕ) → IsNew counts s clock n content slots f → SameBut s o f g
    → is_counting (half2 g s o) (half2 g s (other o)) ≡ true → half2 g s o ≡ slice_index (half_bytes n clock content) → recovered2 counts g ≡ Some (with_slot clock s content slots)
unfolding recovered2
new_recovered counts s o clock n (Four slot) slots f g w same p whole =
    let others4 = entry_elsewhere slot4_of s o f g same in
    let others6 = entry_elsewhere slot6_of s o f g same in
    let within : IsWithin4 slot = here4 counts (Some 0) (entry2 slot4_of f) (entry2 slot4_of g) (entry2 slot6_of f) (entry2 slot6_of g) s clock slots w.was others4 others6 slot w.fits w.change IsWithin4 w.change.book.within4 in
    changed4 counts (Some 0) (entry2 slot4_of f) (entry2 slot4_of g) (entry2 slot6_of f) (entry2 slot6_of g) s clock slots w.was others4 others6 slot w.fits w.change
    (entry_by slot4_of g s o p ∙ ap (held slot4_of) whole ∙ held4 slot n clock w.small w.key within)
new_recovered counts s o clock n (Six slot) slots f g w same p whole =
    let others4 = entry_elsewhere slot4_of s o f g same in
    let others6 = entry_elsewhere slot6_of s o f g same in
    let within : IsWithin6 slot = here6 counts (Some 0) (entry2 slot4_of f) (entry2 slot4_of g) (entry2 slot6_of f) (entry2 slot6_of g) s clock slots w.was others4 others6 slot w.fits.0 w.fits.1 w.change IsWithin6 w.change.book.within6 in
    changed6 counts (Some 0) (entry2 slot4_of f) (entry2 slot4_of g) (entry2 slot6_of f) (entry2 slot6_of g) s clock slots w.was others4 others6 slot w.fits.0 w.fits.1 w.change
    (entry_by slot6_of g s o p ∙ ap (held slot6_of) whole ∙ held6 slot n clock w.small w.key within)

-- the other half is closed, and all else as it was
pub record IsShut (s : ℕ) (h : Half) (f g : ℕ → ℕ) : Type 0 where
  pub same : SameBut s (other h) f g
  pub shut : is_open (half2 g s (other h)) ≡ false

-- the other half is written, and all else as it was
pub record IsFilled (s : ℕ) (h : Half) (whole : List ℕ) (f g : ℕ → ℕ) : Type 0 where
  pub same : SameBut s (other h) f g
  pub body : (i : ℕ) → half2 g s (other h) (suc i) ≡ slice_index whole (suc i)

gate_is : (b : ℕ) → (b == 165) ≡ true → b ≡ 165
gate_is b e = grind (arith, e)

-- with its gate open
opened_byte : (s : ℕ) (h : Half) (whole : List ℕ) (f g : ℕ → ℕ) → IsFilled s h whole f g → slice_index whole 0 ≡ 165 → is_open (half2 g s (other h)) ≡ true → (i : ℕ) → half2 g s (other h) i ≡ slice_index whole i
opened_byte s h whole f g filled first o zero = gate_is (half2 g s (other h) 0) o ∙ sym first
opened_byte s h whole f g filled first o (suc i) = filled.body i

opened_half : (s : ℕ) (h : Half) (whole : List ℕ) (f g : ℕ → ℕ) → IsFilled s h whole f g → slice_index whole 0 ≡ 165 → is_open (half2 g s (other h)) ≡ true → half2 g s (other h) ≡ slice_index whole
opened_half s h whole f g filled first o = λ j. λ i. opened_byte s h whole f g filled first o i j

pub first_byte : (n clock : ℕ) (content : Content) → slice_index (half_bytes n clock content) 0 ≡ 165
first_byte n clock (Four S4.Free) = refl
first_byte n clock (Four (S4.Bound key until)) = refl
first_byte n clock (Four (S4.Barred until)) = refl
first_byte n clock (Six S6.Free) = refl
first_byte n clock (Six (S6.Bound key until)) = refl
first_byte n clock (Six (S6.Barred until)) = refl

pub fourth_byte : (n clock : ℕ) (content : Content) → slice_index (half_bytes n clock content) 3 ≡ n
fourth_byte n clock (Four S4.Free) = refl
fourth_byte n clock (Four (S4.Bound key until)) = refl
fourth_byte n clock (Four (S4.Barred until)) = refl
fourth_byte n clock (Six S6.Free) = refl
fourth_byte n clock (Six (S6.Bound key until)) = refl
fourth_byte n clock (Six (S6.Barred until)) = refl

-- a filled half whose gate is open counts
filled_counts : (s : ℕ) (h : Half) (whole : List ℕ) (f g : ℕ → ℕ) → is_counting (half2 f s h) (half2 f s (other h)) ≡ true → IsFilled s h whole f g → slice_index whole 3 ≡ next (sequence (half2 f s h)) → is_open (half2 g s (other h)) ≡ true
    → is_counting (half2 g s (other h)) (half2 g s (other (other h))) ≡ true
filled_counts s h whole f g p filled n o =
    let own : half2 g s (other (other h)) ≡ half2 f s h = ap (half2 g s) (other_other h) ∙ same_own s h f g filled.same in
    ap (is_counting (half2 g s (other h))) own ∙ when_open (half2 f s h) (half2 f s (other h)) (half2 g s (other h)) p o (filled.body 2 ∙ n)

stays_counting : (s : ℕ) (h : Half) (f g : ℕ → ℕ) → SameBut s (other h) f g → is_counting (half2 f s h) (half2 g s (other h)) ≡ true → is_counting (half2 g s h) (half2 g s (other h)) ≡ true
stays_counting s h f g same p = ap (λ own. is_counting own (half2 g s (other h))) (same_own s h f g same) ∙ p

-- with the other half written, its gate decides
pub by_open : (counts : List ℕ) (s : ℕ) (h : Half) (clock n : ℕ) (content : Content) (slots : Slots) (f g : ℕ → ℕ) (b : Bool) → is_open (half2 g s (other h)) ≡ b
    → is_counting (half2 f s h) (half2 f s (other h)) ≡ true → IsNew counts s clock n content slots f → n ≡ next (sequence (half2 f s h)) → IsFilled s h (half_bytes n clock content) f g
    → recovered2 counts g ≡ (if b then Some (with_slot clock s content slots) else Some slots)
by_open counts s h clock n content slots f g true e p w seq filled =
    new_recovered counts s (other h) clock n content slots f g w filled.same (filled_counts s h (half_bytes n clock content) f g p filled (fourth_byte n clock content ∙ seq) e)
    (opened_half s h (half_bytes n clock content) f g filled (first_byte n clock content) e)
by_open counts s h clock n content slots f g false e p w seq filled =
    same_recovered counts s h f g filled.same p (stays_counting s h f g filled.same (while_shut (half2 f s h) (half2 f s (other h)) (half2 g s (other h)) p e)) ∙ w.was

-- Bytes of a half

at_gate : (s : ℕ) (o : Half) (f : ℕ → ℕ) → half2 f s o 0 ≡ f (half_at s o)
at_gate s o f = ap f (omega arith)

gate_bool : (s : ℕ) (o : Half) (f : ℕ → ℕ) → is_open (half2 f s o) ≡ (f (half_at s o) == gate_open)
gate_bool s o f = λ i. at_gate s o f i == 165

beside_gate : (at n i : ℕ) → n ≤ 1 → 1 ≤ i → is_within at n (at + i) ≡ false
beside_gate at n i h k = grind arith

-- while the gate of the other half is closed, or in doubt
pub left_closing : (k : ℕ) (counts : List ℕ) (after : Option Slots) (s : ℕ) (mark : Mark) (was_open : Bool) (slots : Slots) (old new : Region) → is_format2 old.byte ≡ true → IsMark old.byte s mark → was_open ≡ mark.other_open → IsClean old
    → IsTorn (half_at s (other mark.half)) (if was_open then 1 else 0) old new → recovered2 counts old.byte ≡ Some slots → nat_le 5 k ≡ false
    → IsLeft k (half_at s (other mark.half)) (Some slots) after counts new
left_closing k counts after s mark true slots old new two m reads clean torn was e = record {
  crash = λ f crash.
      let at = half_at s (other mark.half) in
      let beside = outside at 1 old new f clean torn crash in
      let same : SameBut s (other mark.half) old.byte f = record { each = λ i h. beside i (narrow at 1 256 i (omega arith) h) } in
      let behind : sequence (half2 f s (other mark.half)) ≡ sequence (half2 old.byte s (other mark.half)) = beside (at + 3) (beside_gate at 1 3 (omega arith) (omega arith)) in
      let gate : is_open (half2 old.byte s (other mark.half)) ≡ false → is_open (half2 f s (other mark.half)) ≡ false = λ c. absurd (let o = reads ∙ m.other_open ∙ c in cc) in
      rw e (as_format2 counts f (same_format s (other mark.half) old.byte f same ∙ two) ∙ same_recovered counts s mark.half old.byte f same m.counting
      (stays_counting s mark.half old.byte f same (while_closing (half2 old.byte s mark.half) (half2 old.byte s (other mark.half)) (half2 f s (other mark.half)) m.counting behind gate)) ∙ was);
  doubt = λ h. absurd (not_late k e h);
}
left_closing k counts after s mark false slots old new two m reads clean torn was e = record {
  crash = λ f crash.
      let at = half_at s (other mark.half) in
      let beside = outside at 0 old new f clean torn crash in
      let same : SameBut s (other mark.half) old.byte f = record { each = λ i h. beside i (narrow at 0 256 i (omega arith) h) } in
      let shut : is_open (half2 f s (other mark.half)) ≡ false = (λ j. beside (at + 0) (is_above at 0 (at + 0) (omega arith)) j == 165) ∙ sym (reads ∙ m.other_open) in
      rw e (as_format2 counts f (same_format s (other mark.half) old.byte f same ∙ two) ∙ same_recovered counts s mark.half old.byte f same m.counting
      (stays_counting s mark.half old.byte f same (while_shut (half2 old.byte s mark.half) (half2 old.byte s (other mark.half)) (half2 f s (other mark.half)) m.counting shut)) ∙ was);
  doubt = λ h. absurd (not_late k e h);
}

pub left_writing : (k : ℕ) (counts : List ℕ) (after : Option Slots) (s : ℕ) (mark : Mark) (slots : Slots) (first old new : Region) → is_format2 first.byte ≡ true → IsMark first.byte s mark → IsShut s mark.half first.byte old.byte → IsClean old
    → IsTorn (half_at s (other mark.half) + 1) 255 old new → recovered2 counts first.byte ≡ Some slots → nat_le 5 k ≡ false
    → IsLeft k (half_at s (other mark.half)) (Some slots) after counts new
left_writing k counts after s mark slots first old new two m shut clean torn was e = record {
  crash = λ f crash.
      let at = half_at s (other mark.half) in
      let beside = outside (at + 1) 255 old new f clean torn crash in
      let now : SameBut s (other mark.half) old.byte f = record { each = λ i h. beside i (narrow_behind at i h) } in
      let same = but_both s (other mark.half) first.byte old.byte f shut.same now in
      let still : is_open (half2 f s (other mark.half)) ≡ false = (λ j. beside (at + 0) (is_below (at + 1) 255 (at + 0) (omega arith)) j == 165) ∙ shut.shut in
      rw e (as_format2 counts f (same_format s (other mark.half) first.byte f same ∙ two) ∙ same_recovered counts s mark.half first.byte f same m.counting
      (stays_counting s mark.half first.byte f same (while_shut (half2 first.byte s mark.half) (half2 first.byte s (other mark.half)) (half2 f s (other mark.half)) m.counting still)) ∙ was);
  doubt = λ h. absurd (not_late k e h);
}

behind_byte : (at : ℕ) (f g : ℕ → ℕ) → ((i : ℕ) → is_within at 1 i ≡ false → g i ≡ f i) → (i : ℕ) (b : Bool) → (if b then g (at + suc i) else 0) ≡ (if b then f (at + suc i) else 0)
behind_byte at f g same i true = same (at + suc i) (is_above at 1 (at + suc i) (omega arith))
behind_byte at f g same i false = refl

-- opening the gate, or leaving it in doubt, changes nothing else
pub still_filled : (s : ℕ) (h : Half) (whole : List ℕ) (f g x : ℕ → ℕ) → IsFilled s h whole f g → ((i : ℕ) → is_within (half_at s (other h)) 1 i ≡ false → x i ≡ g i) → IsFilled s h whole f x
still_filled s h whole f g x filled beside = record {
  same = but_both s (other h) f g x filled.same (record { each = λ i k. beside i (narrow (half_at s (other h)) 1 256 i (omega arith) k) });
  body = λ i. behind_byte (half_at s (other h)) g x beside i (nat_lt (suc i) 256) ∙ filled.body i;
}

pub left_opening : (k : ℕ) (counts : List ℕ) (s : ℕ) (mark : Mark) (clock n : ℕ) (content : Content) (slots : Slots) (first old new : Region) → is_format2 first.byte ≡ true → IsMark first.byte s mark → IsNew counts s clock n content slots first.byte
    → n ≡ next (sequence (half2 first.byte s mark.half)) → IsFilled s mark.half (half_bytes n clock content) first.byte old.byte → IsClean old
    → IsTorn (half_at s (other mark.half)) 1 old new → nat_le 5 k ≡ true
    → IsLeft k (half_at s (other mark.half)) (Some slots) (Some (with_slot clock s content slots)) counts new
left_opening k counts s mark clock n content slots first old new two m w seq filled clean torn e = record {
  crash = λ f crash.
      let at = half_at s (other mark.half) in
      let now = still_filled s mark.half (half_bytes n clock content) first.byte old.byte f filled (outside at 1 old new f clean torn crash) in
      rw e (as_format2 counts f (same_format s (other mark.half) first.byte f now.same ∙ two) ∙ by_open counts s mark.half clock n content slots first.byte f (f at == gate_open) (gate_bool s (other mark.half) f) m.counting w seq now);
  doubt = λ h. torn.unsynced (half_at s (other mark.half)) ∙ rw (is_inside (half_at s (other mark.half)) 1 (half_at s (other mark.half)) (omega arith) (omega arith)) refl;
}

-- The regions of a save that does not fail

closes_to : (at : ℕ) (was_open : Bool) (r : Region) (i : ℕ) → is_within at 256 i ≡ false → (written at (if was_open then 0 ∷ [] else []) r).byte i ≡ r.byte i
closes_to at true r i h = rw (narrow at 1 256 i (omega arith) h) refl
closes_to at false r i h = rw (narrow at 0 256 i (omega arith) h) refl

shut_to : (s : ℕ) (o : Half) (was_open : Bool) (r : Region) → was_open ≡ is_open (half2 r.byte s o) → (written (half_at s o) (if was_open then 0 ∷ [] else []) r).byte (half_at s o + 0) == 165 ≡ false
shut_to s o true r e = let none : half_at s o + 0 - half_at s o ≡ 0 = omega arith in rw (is_inside (half_at s o) 1 (half_at s o + 0) (omega arith) (omega arith), none) refl
shut_to s o false r e = rw (is_above (half_at s o) 0 (half_at s o + 0) (omega arith)) (sym e)

pub shut : (s : ℕ) (h : Half) (was_open : Bool) (r : Region) → was_open ≡ is_open (half2 r.byte s (other h)) → IsShut s h r.byte (synced (written (half_at s (other h)) (if was_open then 0 ∷ [] else []) r)).byte
shut s h was_open r e = record { same = record { each = closes_to (half_at s (other h)) was_open r }; shut = shut_to s (other h) was_open r e }

pub index_behind : (xs : List ℕ) (j : ℕ) → slice_index (drop 1 xs) j ≡ slice_index xs (suc j)
index_behind [] zero = refl
index_behind [] (suc j) = refl
index_behind (x ∷ xs) j = refl

writes : (at : ℕ) (bytes : List ℕ) (r : Region) → length bytes ≡ 255 → (i : ℕ) → is_within at 256 i ≡ false → (written (at + 1) bytes r).byte i ≡ r.byte i
writes at bytes r size i h = rw (size, narrow_behind at i h) refl

in_body : (at : ℕ) (whole : List ℕ) (r : Region) → length (drop 1 whole) ≡ 255 → length whole ≡ 256 → (i : ℕ) (b : Bool) → nat_lt (suc i) 256 ≡ b
    → (if b then (written (at + 1) (drop 1 whole) r).byte (at + suc i) else 0) ≡ slice_index whole (suc i)
in_body at whole r size all i true e =
    let k : suc i < 256 = grind (arith, e) in
    let there : at + suc i - (at + 1) ≡ i = omega arith in
    rw (size, is_inside (at + 1) 255 (at + suc i) (omega arith) (omega arith), there) (index_behind whole i)
in_body at whole r size all i false e =
    let k : 256 ≤ suc i = grind (arith, e) in
    sym (get_or_past whole (suc i) 0 (omega (arith, all, k)))

-- the other half's body is written over a closed gate
pub fills : (s : ℕ) (h : Half) (whole : List ℕ) (f : ℕ → ℕ) (r : Region) → length (drop 1 whole) ≡ 255 → length whole ≡ 256 → SameBut s (other h) f r.byte
    → IsFilled s h whole f (synced (written (half_at s (other h) + 1) (drop 1 whole) r)).byte
fills s h whole f r size all same = record {
  same = but_both s (other h) f r.byte _ same (record { each = writes (half_at s (other h)) (drop 1 whole) r size });
  body = λ i. in_body (half_at s (other h)) whole r size all i (nat_lt (suc i) 256) refl;
}

pub opens : (at : ℕ) (r : Region) (i : ℕ) → is_within at 1 i ≡ false → (written at (gate_open ∷ []) r).byte i ≡ r.byte i
opens at r i h = rw h refl

pub opened_to : (s : ℕ) (o : Half) (r : Region) → is_open (half2 (written (half_at s o) (gate_open ∷ []) r).byte s o) ≡ true
opened_to s o r = let none : half_at s o + 0 - half_at s o ≡ 0 = omega arith in rw (is_inside (half_at s o) 1 (half_at s o + 0) (omega arith) (omega arith), none) refl

pub saved_book : (counts : List ℕ) (s : ℕ) (mark : Mark) (clock n : ℕ) (content : Content) (slots : Slots) (first old : Region) → is_format2 first.byte ≡ true → IsMark first.byte s mark → IsNew counts s clock n content slots first.byte
    → n ≡ next (sequence (half2 first.byte s mark.half)) → IsFilled s mark.half (half_bytes n clock content) first.byte old.byte
    → recovered counts (written (half_at s (other mark.half)) (gate_open ∷ []) old).byte ≡ Some (with_slot clock s content slots)
saved_book counts s mark clock n content slots first old two m w seq filled =
    let new = (written (half_at s (other mark.half)) (gate_open ∷ []) old).byte in
    let now = still_filled s mark.half (half_bytes n clock content) first.byte old.byte new filled (opens (half_at s (other mark.half)) old) in
    as_format2 counts new (same_format s (other mark.half) first.byte new now.same ∙ two)
    ∙ by_open counts s mark.half clock n content slots first.byte new true (opened_to s (other mark.half) old) m.counting w seq now

-- the mark after it
pub saved_mark : (s : ℕ) (mark : Mark) (n : ℕ) (whole : List ℕ) (first old : Region) → IsMark first.byte s mark → slice_index whole 3 ≡ n → n ≡ next (sequence (half2 first.byte s mark.half)) → IsFilled s mark.half whole first.byte old.byte
    → IsMark (written (half_at s (other mark.half)) (gate_open ∷ []) old).byte s (record { half = other mark.half; sequence = n; other_open = true })
saved_mark s mark n whole first old m third seq filled =
    let new = written (half_at s (other mark.half)) (gate_open ∷ []) old in
    let now = still_filled s mark.half whole first.byte old.byte new.byte filled (opens (half_at s (other mark.half)) old) in
    let own : half2 new.byte s (other (other mark.half)) ≡ half2 first.byte s mark.half = ap (half2 new.byte s) (other_other mark.half) ∙ same_own s mark.half first.byte new.byte now.same in
    record {
      counting = filled_counts s mark.half whole first.byte new.byte m.counting now (third ∙ seq) (opened_to s (other mark.half) old);
      sequence = sym (now.body 2 ∙ third);
      other_open = sym (ap is_open own ∙ counting_open (half2 first.byte s mark.half) (half2 first.byte s (other mark.half)) m.counting);
    }
