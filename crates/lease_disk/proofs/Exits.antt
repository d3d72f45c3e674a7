-- The exits of a save, by what its three functions promise.
use Rattle.std.proofs.Common.{◌≡◌, ℕ, ◌+◌, ◌-◌, ◌<◌, ◌≤◌, Bool, true, false, List, [], ◌∷◌, length, set, get_or, slice_index, Some, Result, OnErr, Ok, Err, refl, sym, ap, ◌∙◌, subst, arith}
use Rattle.std.specs.Prelude.{if◌then◌else◌, ◌==◌, drop, suc}
use Rattle.std.proofs.lemmas.List.{get_or-set_same, get_or-set_other}
use Rattle.types.specs.declared.slots.Slots.{Slots}
use Rattle.lease_disk.specs.declared.content.Content.{Content}
use Rattle.lease_disk.specs.declared.half.Half.{Half}
use Rattle.lease_disk.specs.declared.half.Half.TheVariants.{First}
use Rattle.lease_disk.specs.declared.marks.Mark.{Mark}
use Rattle.lease_disk.specs.declared.marks.Marks.{Marks}
use Rattle.lease_disk.specs.HalfBytes.{half_bytes}
use Rattle.lease_disk.specs.Keys.{HasKey}
use Rattle.lease_disk.specs.Layout.{gate_open, half_at, half2, is_format2}
use Rattle.lease_disk.specs.Recovered.{is_counting, is_open, last_clock, next, sequence as sequence_of, recovered}
use Rattle.lease_disk.specs.Region.{Region, is_within, written, synced, effective, IsClean, IsTorn}
use Rattle.lease_disk.specs.Save.{AreMarks, Fits, IsChange, IsMark, IsSaved, IsLeft, mark_at, other, saved_byte, with_slot}
use Rattle.lease_disk.proofs.Halves.{SameBut, as_format2, recovered2, same_elsewhere, counting_sequence, is_inside}
use Rattle.lease_disk.proofs.Steps.{IsShut, IsFilled, IsNew, early, middle, late, shut, fills, first_byte, fourth_byte, index_behind, left_closing, left_writing, left_opening, saved_book, saved_mark}

pub on_err : {T E : Type 0} → (r : Result T E) → {P : Type 0} → P → OnErr r P
on_err (Ok x) p = tt
on_err (Err e) p = p

closed_size : (was_open : Bool) → length {A = ℕ} (if was_open then 0 ∷ [] else []) ≡ (if was_open then 1 else 0)
closed_size true = refl
closed_size false = refl

clean_synced : (r : Region) → IsClean (synced r)
clean_synced r = record { each = λ i. refl }

is_clean : (r r1 : Region) → r1 ≡ synced r → IsClean r1
is_clean r r1 e = subst (λ (x : Region). IsClean x) (sym e) (clean_synced r)

none_is_some : length {A = ℕ} [] ≡ 256 → ⊥
none_is_some e = omega arith

suc_injective : {n : ℕ} → suc n ≡ 256 → n ≡ 255
suc_injective e = omega arith

size_behind : (xs : List ℕ) → length xs ≡ 256 → length (drop 1 xs) ≡ 255
size_behind [] size = absurd (none_is_some size)
size_behind (x ∷ xs) size = suc_injective size

-- what a save is given and has found
pub record IsSave (s : ℕ) (mark : Mark) (at n clock : ℕ) (content : Content) (whole bytes : List ℕ) (r0 : Region) : Type 0 where
  pub at_is : at ≡ half_at s (other mark.half)
  pub two : is_format2 r0.byte ≡ true
  pub mark_is : IsMark r0.byte s mark
  pub clean : IsClean r0
  pub whole_is : whole ≡ half_bytes n clock content
  pub size : length whole ≡ 256
  pub bytes_are : bytes ≡ drop 1 whole
  pub n_is : mark.sequence ≤ 2 → n ≡ next mark.sequence
  pub fits : Fits s content
  pub key : HasKey content
  pub small : clock ≤ last_clock

module _ (s : ℕ) (mark : Mark) (at n clock : ℕ) (content : Content) (whole bytes : List ℕ) (r0 : Region) (given : IsSave s mark at n clock content whole bytes r0) where
  pub next_mark : n ≡ next mark.sequence
  next_mark = given.n_is (subst (λ (m : ℕ). m ≤ 2) (sym given.mark_is.sequence) (counting_sequence (half2 r0.byte s mark.half) (half2 r0.byte s (other mark.half)) given.mark_is.counting))

  next_sequence : n ≡ next (sequence_of (half2 r0.byte s mark.half))
  next_sequence = next_mark ∙ ap next given.mark_is.sequence

  was2 : (counts : List ℕ) (slots : Slots) → recovered counts r0.byte ≡ Some slots → recovered2 counts r0.byte ≡ Some slots
  was2 counts slots was = sym (as_format2 counts r0.byte given.two) ∙ was

  is_new : (counts : List ℕ) (slots : Slots) → recovered counts r0.byte ≡ Some slots → IsChange counts clock s content slots → IsNew counts s clock n content slots r0.byte
  is_new counts slots was change = record { fits = given.fits; key = given.key; small = given.small; was = was2 counts slots was; change = change }

  module _ (k : ℕ) (counts : List ℕ) (slots : Slots) (was : recovered counts r0.byte ≡ Some slots) (change : IsChange counts clock s content slots) where
    pub exit_closing : (r : Region) → IsTorn at (length {A = ℕ} (if mark.other_open then 0 ∷ [] else [])) r0 r → false ≡ (effective 2 k == 0)
        → IsLeft k (half_at s (other mark.half)) (Some slots) (Some (with_slot clock s content slots)) counts r
    exit_closing r torn answer =
        left_closing k counts (Some (with_slot clock s content slots)) s mark mark.other_open slots r0 r given.two given.mark_is refl given.clean (rw (given.at_is, closed_size mark.other_open) at torn) (was2 counts slots was) (early k answer)

  module _ (r1 : Region) (closed : r1 ≡ synced (written at (if mark.other_open then 0 ∷ [] else []) r0)) where
    is_shut : IsShut s mark.half r0.byte r1.byte
    is_shut =
        let e : r1 ≡ synced (written (half_at s (other mark.half)) (if mark.other_open then 0 ∷ [] else []) r0) = rw given.at_is at closed in
        subst (λ (r : Region). IsShut s mark.half r0.byte r.byte) (sym e) (shut s mark.half mark.other_open r0 given.mark_is.other_open)

    clean1 : IsClean r1
    clean1 = is_clean (written at (if mark.other_open then 0 ∷ [] else []) r0) r1 closed

    bytes_size : length bytes ≡ 255
    bytes_size = ap length given.bytes_are ∙ size_behind whole given.size

    pub exit_writing : (k k1 : ℕ) (counts : List ℕ) (slots : Slots) → recovered counts r0.byte ≡ Some slots → IsChange counts clock s content slots
        → (r : Region) → k1 ≡ k - 2 → IsTorn (at + 1) (length bytes) r1 r → false ≡ (effective 2 k1 == 0)
        → IsLeft k (half_at s (other mark.half)) (Some slots) (Some (with_slot clock s content slots)) counts r
    exit_writing k k1 counts slots was change r f torn answer =
        left_writing k counts (Some (with_slot clock s content slots)) s mark slots r0 r1 r given.two given.mark_is is_shut clean1 (rw (given.at_is, bytes_size) at torn) (was2 counts slots was) (middle k (rw f at answer))

    module _ (r2 : Region) (filled : r2 ≡ synced (written (at + 1) bytes r1)) where
      is_filled : IsFilled s mark.half (half_bytes n clock content) r0.byte r2.byte
      is_filled =
          let e : r2 ≡ synced (written (half_at s (other mark.half) + 1) (drop 1 whole) r1) = rw (← given.at_is, ← given.bytes_are) filled in
          let f : IsFilled s mark.half whole r0.byte (synced (written (half_at s (other mark.half) + 1) (drop 1 whole) r1)).byte =
          fills s mark.half whole r0.byte r1 (size_behind whole given.size) given.size is_shut.same in
          let g : IsFilled s mark.half (half_bytes n clock content) r0.byte (synced (written (half_at s (other mark.half) + 1) (drop 1 whole) r1)).byte =
          subst (λ (xs : List ℕ). IsFilled s mark.half xs r0.byte (synced (written (half_at s (other mark.half) + 1) (drop 1 whole) r1)).byte) given.whole_is f in
          subst (λ (r : Region). IsFilled s mark.half (half_bytes n clock content) r0.byte r.byte) (sym e) g

      clean2 : IsClean r2
      clean2 = is_clean (written (at + 1) bytes r1) r2 filled

      pub exit_opening : (k k1 k2 : ℕ) (counts : List ℕ) (slots : Slots) → recovered counts r0.byte ≡ Some slots → IsChange counts clock s content slots
          → (r : Region) → k1 ≡ k - 2 → k2 ≡ k1 - 2 → IsTorn at 1 r2 r → false ≡ (effective 2 k2 == 0)
          → IsLeft k (half_at s (other mark.half)) (Some slots) (Some (with_slot clock s content slots)) counts r
      exit_opening k k1 k2 counts slots was change r f g torn answer =
          left_opening k counts s mark clock n content slots r0 r2 r given.two given.mark_is (is_new counts slots was change) next_sequence is_filled clean2 (rw given.at_is at torn) (late k (rw (g, f) at answer))

      beside2 : (i : ℕ) → is_within at 256 i ≡ false → r2.byte i ≡ r0.byte i
      beside2 i h = is_filled.same.each i (rw given.at_is at h)

      module _ (r3 : Region) (over : r3 ≡ synced (written at (gate_open ∷ []) r2)) where
        over_is : r3 ≡ synced (written (half_at s (other mark.half)) (gate_open ∷ []) r2)
        over_is = rw given.at_is at over

        pub exit_saved : (counts : List ℕ) (slots : Slots) → recovered counts r0.byte ≡ Some slots → IsChange counts clock s content slots → IsSaved counts (with_slot clock s content slots) r3
        exit_saved counts slots was change = record {
          clean = is_clean (written at (gate_open ∷ []) r2) r3 over;
          kept = subst (λ (r : Region). recovered counts r.byte ≡ Some (with_slot clock s content slots)) (sym over_is)
              (saved_book counts s mark clock n content slots r0 r2 given.two given.mark_is (is_new counts slots was change) next_sequence is_filled);
        }

        own_mark : IsMark r3.byte s (record { half = other mark.half; sequence = n; other_open = true })
        own_mark = subst (λ (r : Region). IsMark r.byte s (record { half = other mark.half; sequence = n; other_open = true })) (sym over_is)
            (saved_mark s mark n (half_bytes n clock content) r0 r2 given.mark_is (fourth_byte n clock content) next_sequence is_filled)

        beside3 : (i : ℕ) → is_within at 256 i ≡ false → r3.byte i ≡ r0.byte i
        beside3 i h = ap (λ (r : Region). r.byte i) over ∙ ap (λ b. if b then slice_index (gate_open ∷ []) (i - at) else r2.byte i) (narrow_gate i h) ∙ beside2 i h where
          narrow_gate : (i : ℕ) → is_within at 256 i ≡ false → is_within at 1 i ≡ false
          narrow_gate i h = grind (arith, h)

        mark_elsewhere : (t : ℕ) (m : Mark) → (t ≡ s → ⊥) → IsMark r0.byte t m → IsMark r3.byte t m
        mark_elsewhere t m ne was =
            let same : SameBut s (other mark.half) r0.byte r3.byte = record { each = λ i h. beside3 i (rw (← given.at_is) at h) } in
            let own : half2 r3.byte t m.half ≡ half2 r0.byte t m.half = same_elsewhere s (other mark.half) r0.byte r3.byte same t m.half ne in
            let opposite : half2 r3.byte t (other m.half) ≡ half2 r0.byte t (other m.half) = same_elsewhere s (other mark.half) r0.byte r3.byte same t (other m.half) ne in
            record {
              counting = (λ j. is_counting (own j) (opposite j)) ∙ was.counting;
              sequence = was.sequence ∙ ap sequence_of (sym own);
              other_open = was.other_open ∙ ap is_open (sym opposite);
            }

        mark_by : (marks : Marks) (o : Half) → o ≡ other mark.half → s < length marks.slots → (t : ℕ) (b : Bool) → (t == s) ≡ b → IsMark r0.byte t (mark_at marks t)
            → IsMark r3.byte t (mark_at (record { slots = set marks.slots s (record { half = o; sequence = n; other_open = true }) }) t)
        mark_by marks o is within t true e was =
            let k : t ≡ s = grind (arith, e) in
            let there : get_or (set marks.slots s (record { half = o; sequence = n; other_open = true })) t (record { half = First; sequence = 0; other_open = false }) ≡ record { half = other mark.half; sequence = n; other_open = true } =
            ap (λ i. get_or (set marks.slots s (record { half = o; sequence = n; other_open = true })) i (record { half = First; sequence = 0; other_open = false })) k
            ∙ get_or-set_same marks.slots s (record { half = o; sequence = n; other_open = true }) (record { half = First; sequence = 0; other_open = false }) within
            ∙ ap (λ h. record { half = h; sequence = n; other_open = true }) is in
            subst (λ m. IsMark r3.byte t m) (sym there) (subst (λ i. IsMark r3.byte i (record { half = other mark.half; sequence = n; other_open = true })) (sym k) own_mark)
        mark_by marks o is within t false e was =
            let ne : t ≡ s → ⊥ = λ k. absurd (grind (arith, e, k)) in
            subst (λ m. IsMark r3.byte t m) (sym (get_or-set_other marks.slots s t (record { half = o; sequence = n; other_open = true }) (record { half = First; sequence = 0; other_open = false }) ne)) (mark_elsewhere t (mark_at marks t) ne was)

        pub exit_marks : (counts : List ℕ) (marks : Marks) (o : Half) → o ≡ other mark.half → s < length marks.slots → AreMarks counts r0.byte marks
            → AreMarks counts r3.byte (record { slots = set marks.slots s (record { half = o; sequence = n; other_open = true }) })
        exit_marks counts marks o is within are t below = mark_by marks o is within t (t == s) refl (are t below)

        at_place : (i : ℕ) (b : Bool) → is_within at 256 i ≡ b → (c : Bool) → (i == at) ≡ c → r3.byte i ≡ (if b then slice_index whole (i - at) else r0.byte i)
        at_place i false h c e = beside3 i h
        at_place i true h true e =
            let here : i ≡ at = grind (arith, e) in
            let none : i - at ≡ 0 = omega arith in
            ap (λ (r : Region). r.byte i) over ∙ rw (is_inside at 1 i (omega arith) (omega arith), none) (sym (ap (λ xs. slice_index xs 0) given.whole_is ∙ first_byte n clock content))
        at_place i true h false e =
            let outside_gate : is_within at 1 i ≡ false = grind (arith, e) in
            let inside : is_within (at + 1) 255 i ≡ true = grind (arith, e, h) in
            let there : suc (i - (at + 1)) ≡ i - at = let k : at + 1 ≤ i = grind (arith, e, h) in omega arith in
            ap (λ (r : Region). r.byte i) over ∙ ap (λ b. if b then slice_index (gate_open ∷ []) (i - at) else r2.byte i) outside_gate
            ∙ ap (λ (r : Region). r.byte i) filled
            ∙ ap (λ m. if is_within (at + 1) m i then slice_index bytes (i - (at + 1)) else r1.byte i) bytes_size
            ∙ ap (λ b. if b then slice_index bytes (i - (at + 1)) else r1.byte i) inside
            ∙ ap (λ xs. slice_index xs (i - (at + 1))) given.bytes_are ∙ index_behind whole (i - (at + 1)) ∙ ap (slice_index whole) there

        pub exit_bytes : (i : ℕ) → r3.byte i ≡ saved_byte s mark clock content r0.byte i
        exit_bytes i =
            at_place i (is_within at 256 i) refl (i == at) refl
            ∙ ap (λ xs. if is_within at 256 i then slice_index xs (i - at) else r0.byte i) (given.whole_is ∙ ap (λ m. half_bytes m clock content) next_mark)
            ∙ ap (λ a. if is_within a 256 i then slice_index (half_bytes (next mark.sequence) clock content) (i - a) else r0.byte i) given.at_is
