-- What a save whose call failed leaves of the bytes of its region, by the write that was its last.
use Rattle.std.proofs.Common.{◌≡◌, ℕ, ◌+◌, ◌-◌, ◌≤◌, ◌==◌, ◌||◌, Bool, true, false, List, [], ◌∷◌, length, slice_index, nat_le, suc, refl, sym, ap, ◌∙◌, arith}
use Rattle.std.specs.Prelude.{if◌then◌else◌, ◌%◌}
use Rattle.lease_disk.specs.declared.content.Content.{Content}
use Rattle.lease_disk.specs.declared.marks.Mark.{Mark}
use Rattle.lease_disk.specs.HalfBytes.{half_bytes}
use Rattle.lease_disk.specs.Layout.{gate_open}
use Rattle.lease_disk.specs.Recovered.{next}
use Rattle.lease_disk.specs.Region.{Region, is_within, synced, written, IsClean, IsTorn}
use Rattle.lease_disk.specs.Save.{IsStopped, gate_at, in_doubt, left_byte, saved_byte}
use Rattle.lease_disk.proofs.Exits.{IsSave, exit_bytes, next_mark}
use Rattle.lease_disk.proofs.Halves.{is_inside}
use Rattle.lease_disk.proofs.Steps.{index_behind}

pub or_false : (b : Bool) → (b || false) ≡ b
or_false true = refl
or_false false = refl

-- one byte
pub place_by : (at i : ℕ) (b : Bool) → (i == at) ≡ b → is_within at 1 i ≡ b
place_by at i true e = grind (arith, e)
place_by at i false e = grind (arith, e)

-- ---- the definitions, by the write that was the last

module _ (k s : ℕ) (mark : Mark) (i : ℕ) where
  doubt_closing : k ≤ 2 → is_within (gate_at s mark) (if mark.other_open then 1 else 0) i ≡ in_doubt k s mark i
  doubt_closing most =
      let early : nat_le k 2 ≡ true = grind (arith, most) in
      sym (ap (λ b. if b then is_within (gate_at s mark) (if mark.other_open then 1 else 0) i else if nat_le k 4 then is_within (gate_at s mark + 1) 255 i else is_within (gate_at s mark) 1 i) early)

  late_is : 3 ≤ k → in_doubt k s mark i ≡ (if nat_le k 4 then is_within (gate_at s mark + 1) 255 i else is_within (gate_at s mark) 1 i)
  late_is least =
      let later : nat_le k 2 ≡ false = grind (arith, least) in
      ap (λ b. if b then is_within (gate_at s mark) (if mark.other_open then 1 else 0) i else if nat_le k 4 then is_within (gate_at s mark + 1) 255 i else is_within (gate_at s mark) 1 i) later

  doubt_filling : 3 ≤ k → k ≤ 4 → is_within (gate_at s mark + 1) 255 i ≡ in_doubt k s mark i
  doubt_filling least most =
      let early : nat_le k 4 ≡ true = grind (arith, most) in
      sym (late_is least ∙ ap (λ b. if b then is_within (gate_at s mark + 1) 255 i else is_within (gate_at s mark) 1 i) early)

  doubt_opening : 5 ≤ k → is_within (gate_at s mark) 1 i ≡ in_doubt k s mark i
  doubt_opening least =
      let late : nat_le k 4 ≡ false = grind (arith, least) in
      sym (late_is (omega (arith, least)) ∙ ap (λ b. if b then is_within (gate_at s mark + 1) 255 i else is_within (gate_at s mark) 1 i) late)

module _ (k s : ℕ) (mark : Mark) (clock : ℕ) (content : Content) (region : ℕ → ℕ) (i : ℕ) where
  not_open : k ≤ 4 → left_byte k s mark clock content region i
      ≡ (if i == gate_at s mark then (if mark.other_open then 0 else region i) else if nat_le 3 k then saved_byte s mark clock content region i else region i)
  not_open most =
      let early : nat_le 5 k ≡ false = grind (arith, most) in
      ap (λ b. if b then saved_byte s mark clock content region i else if i == gate_at s mark then (if mark.other_open then 0 else region i) else if nat_le 3 k then saved_byte s mark clock content region i else region i) early

  byte_closing : k ≤ 2 → left_byte k s mark clock content region i ≡ (if i == gate_at s mark then (if mark.other_open then 0 else region i) else region i)
  byte_closing most =
      let early : nat_le 3 k ≡ false = grind (arith, most) in
      not_open (omega (arith, most)) ∙ ap (λ b. if i == gate_at s mark then (if mark.other_open then 0 else region i) else if b then saved_byte s mark clock content region i else region i) early

  byte_filling : 3 ≤ k → k ≤ 4 → left_byte k s mark clock content region i ≡ (if i == gate_at s mark then (if mark.other_open then 0 else region i) else saved_byte s mark clock content region i)
  byte_filling least most =
      let later : nat_le 3 k ≡ true = grind (arith, least) in
      not_open most ∙ ap (λ b. if i == gate_at s mark then (if mark.other_open then 0 else region i) else if b then saved_byte s mark clock content region i else region i) later

  byte_opening : 5 ≤ k → left_byte k s mark clock content region i ≡ saved_byte s mark clock content region i
  byte_opening least =
      let late : nat_le 5 k ≡ true = grind (arith, least) in
      ap (λ b. if b then saved_byte s mark clock content region i else if i == gate_at s mark then (if mark.other_open then 0 else region i) else if nat_le 3 k then saved_byte s mark clock content region i else region i) late

-- ---- a write that failed, or its sync

module _ (k s : ℕ) (mark : Mark) (clock : ℕ) (content : Content) (from : ℕ) (bytes : List ℕ) (old base r : Region) (clean : IsClean base) (torn : IsTorn from (length bytes) base r)
    (range : (i : ℕ) → is_within from (length bytes) i ≡ in_doubt k s mark i) (made : (i : ℕ) → (written from bytes base).byte i ≡ left_byte k s mark clock content old.byte i)
    (reads : k % 2 ≡ 0 → r ≡ written from bytes base) where
  doubt_is : (i : ℕ) → r.unsynced i ≡ in_doubt k s mark i
  doubt_is i = torn.unsynced i ∙ ap (λ b. is_within from (length bytes) i || b) (clean.each i) ∙ or_false (is_within from (length bytes) i) ∙ range i

  stops : IsStopped k s mark clock content old r
  stops = record {
    doubt = doubt_is;
    sure = λ f crash i known.
        let outside : is_within from (length bytes) i ≡ false = range i ∙ known in
        crash.same i (doubt_is i ∙ known) ∙ torn.byte i outside ∙ sym (ap (λ b. if b then slice_index bytes (i - from) else base.byte i) outside) ∙ made i;
    reads = λ even i. ap (λ (x : Region). x.byte i) (reads even) ∙ made i;
  }

-- ---- what the writes make of the region

closed_size : (was_open : Bool) → length {A = ℕ} (if was_open then 0 ∷ [] else []) ≡ (if was_open then 1 else 0)
closed_size true = refl
closed_size false = refl

closed_byte : (at : ℕ) (was_open : Bool) (r : Region) (i : ℕ) (b : Bool) → (i == at) ≡ b
    → (written at (if was_open then 0 ∷ [] else []) r).byte i ≡ (if b then (if was_open then 0 else r.byte i) else r.byte i)
closed_byte at true r i true e =
    let here : i ≡ at = grind (arith, e) in
    let none : i - at ≡ 0 = omega (arith, here) in
    ap (λ b. if b then slice_index (0 ∷ []) (i - at) else r.byte i) (is_inside at 1 i (omega (arith, here)) (omega (arith, here))) ∙ ap (slice_index (0 ∷ [])) none
closed_byte at true r i false e =
    let outside : is_within at 1 i ≡ false = grind (arith, e) in
    ap (λ b. if b then slice_index (0 ∷ []) (i - at) else r.byte i) outside
closed_byte at false r i true e =
    let outside : is_within at 0 i ≡ false = grind arith in
    ap (λ b. if b then slice_index [] (i - at) else r.byte i) outside
closed_byte at false r i false e =
    let outside : is_within at 0 i ≡ false = grind arith in
    ap (λ b. if b then slice_index [] (i - at) else r.byte i) outside

module _ (s : ℕ) (mark : Mark) (at n clock : ℕ) (content : Content) (whole bytes : List ℕ) (r0 : Region) (given : IsSave s mark at n clock content whole bytes r0) where
  closing_bytes : (k : ℕ) → k ≤ 2 → (i : ℕ) → (written at (if mark.other_open then 0 ∷ [] else []) r0).byte i ≡ left_byte k s mark clock content r0.byte i
  closing_bytes k most i =
      closed_byte at mark.other_open r0 i (i == at) refl
      ∙ ap (λ a. if i == a then (if mark.other_open then 0 else r0.byte i) else r0.byte i) given.at_is
      ∙ sym (byte_closing k s mark clock content r0.byte i most)

  pub stops_closing : (k : ℕ) (r : Region) → k ≤ 2 → IsTorn at (length {A = ℕ} (if mark.other_open then 0 ∷ [] else [])) r0 r
      → (k % 2 ≡ 0 → r ≡ written at (if mark.other_open then 0 ∷ [] else []) r0) → IsStopped k s mark clock content r0 r
  stops_closing k r most torn reads =
      stops k s mark clock content at (if mark.other_open then 0 ∷ [] else []) r0 r0 r given.clean torn
      (λ i. ap (λ m. is_within at m i) (closed_size mark.other_open) ∙ ap (λ a. is_within a (if mark.other_open then 1 else 0) i) given.at_is ∙ doubt_closing k s mark i most)
      (closing_bytes k most) reads

  module _ (size : length bytes ≡ 255) (r1 : Region) (is1 : r1 ≡ synced (written at (if mark.other_open then 0 ∷ [] else []) r0)) where
    closed_is : (i : ℕ) (b : Bool) → (i == at) ≡ b → r1.byte i ≡ (if b then (if mark.other_open then 0 else r0.byte i) else r0.byte i)
    closed_is i b e = ap (λ (r : Region). r.byte i) is1 ∙ closed_byte at mark.other_open r0 i b e

    by_place : (i : ℕ) (c : Bool) → is_within (at + 1) 255 i ≡ c → (written (at + 1) bytes r1).byte i ≡ (if c then slice_index bytes (i - (at + 1)) else r1.byte i)
    by_place i c e =
        ap (λ m. if is_within (at + 1) m i then slice_index bytes (i - (at + 1)) else r1.byte i) size
        ∙ ap (λ b. if b then slice_index bytes (i - (at + 1)) else r1.byte i) e

    filled_byte : (i : ℕ) (b c : Bool) → (i == at) ≡ b → is_within at 256 i ≡ c
        → (written (at + 1) bytes r1).byte i ≡ (if b then (if mark.other_open then 0 else r0.byte i) else if c then slice_index whole (i - at) else r0.byte i)
    filled_byte i true c e h =
        let outside : is_within (at + 1) 255 i ≡ false = grind (arith, e) in
        by_place i false outside ∙ closed_is i true e
    filled_byte i false true e h =
        let inside : is_within (at + 1) 255 i ≡ true = grind (arith, e, h) in
        let there : suc (i - (at + 1)) ≡ i - at = let k : at + 1 ≤ i = grind (arith, e, h) in omega arith in
        by_place i true inside ∙ ap (λ xs. slice_index xs (i - (at + 1))) given.bytes_are ∙ index_behind whole (i - (at + 1)) ∙ ap (slice_index whole) there
    filled_byte i false false e h =
        let outside : is_within (at + 1) 255 i ≡ false = grind (arith, h) in
        by_place i false outside ∙ closed_is i false e

    filling_bytes : (k : ℕ) → 3 ≤ k → k ≤ 4 → (i : ℕ) → (written (at + 1) bytes r1).byte i ≡ left_byte k s mark clock content r0.byte i
    filling_bytes k least most i =
        filled_byte i (i == at) (is_within at 256 i) refl refl
        ∙ ap (λ xs. if i == at then (if mark.other_open then 0 else r0.byte i) else if is_within at 256 i then slice_index xs (i - at) else r0.byte i)
        (given.whole_is ∙ ap (λ m. half_bytes m clock content) (next_mark s mark at n clock content whole bytes r0 given))
        ∙ ap (λ a. if i == a then (if mark.other_open then 0 else r0.byte i) else if is_within a 256 i then slice_index (half_bytes (next mark.sequence) clock content) (i - a) else r0.byte i) given.at_is
        ∙ sym (byte_filling k s mark clock content r0.byte i least most)

    pub stops_filling : (k : ℕ) (r : Region) → 3 ≤ k → k ≤ 4 → IsTorn (at + 1) (length bytes) r1 r → (k % 2 ≡ 0 → r ≡ written (at + 1) bytes r1) → IsStopped k s mark clock content r0 r
    stops_filling k r least most torn reads =
        stops k s mark clock content (at + 1) bytes r0 r1 r (record { each = λ i. ap (λ (x : Region). x.unsynced i) is1 }) torn
        (λ i. ap (λ m. is_within (at + 1) m i) size ∙ ap (λ a. is_within (a + 1) 255 i) given.at_is ∙ doubt_filling k s mark i least most)
        (filling_bytes k least most) reads

    module _ (r2 : Region) (is2 : r2 ≡ synced (written (at + 1) bytes r1)) where
      opening_bytes : (k : ℕ) → 5 ≤ k → (i : ℕ) → (written at (gate_open ∷ []) r2).byte i ≡ left_byte k s mark clock content r0.byte i
      opening_bytes k least i =
          exit_bytes s mark at n clock content whole bytes r0 given r1 is1 r2 is2 (synced (written at (gate_open ∷ []) r2)) refl i
          ∙ sym (byte_opening k s mark clock content r0.byte i least)

      pub stops_opening : (k : ℕ) (r : Region) → 5 ≤ k → IsTorn at 1 r2 r → (k % 2 ≡ 0 → r ≡ written at (gate_open ∷ []) r2) → IsStopped k s mark clock content r0 r
      stops_opening k r least torn reads =
          stops k s mark clock content at (gate_open ∷ []) r0 r2 r (record { each = λ i. ap (λ (x : Region). x.unsynced i) is2 }) torn
          (λ i. ap (λ a. is_within a 1 i) given.at_is ∙ doubt_opening k s mark i least)
          (opening_bytes k least) reads
