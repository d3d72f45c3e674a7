-- What a save makes of one region, at each of its exits, by what its steps leave there.
use Rattle.std.proofs.Common.{◌≡◌, ◌≢◌, ℕ, ◌+◌, ◌-◌, ◌<◌, ◌≤◌, ◌==◌, ◌||◌, Bool, true, false, List, [], ◌∷◌, length, set, slice_index, Some, Ok, Err, Result, is_ok, OnOk, refl, sym, ap, ◌∙◌, subst, arith}
use Rattle.std.specs.Prelude.{if◌then◌else◌, drop, ◌%◌}
use Rattle.types.specs.declared.slots.Slots.{Slots}
use Rattle.lease_disk.specs.declared.content.Content.{Content}
use Rattle.lease_disk.specs.declared.half.Half.{Half}
use Rattle.lease_disk.specs.declared.marks.Marks.{Marks}
use Rattle.lease_disk.specs.Layout.{gate_open, half_at, is_format2}
use Rattle.lease_disk.specs.Recovered.{recovered}
use Rattle.lease_disk.specs.Region.{Region, IsClean, IsTorn, OthersUnchanged, effective, is_within, synced, written}
use Rattle.lease_disk.specs.Save.{IsChange, IsLeft, IsSaveOf, IsStopped, gate_at, mark_at, other, with_slot}
use Rattle.lease_disk.proofs.Exits.{IsSave, exit_bytes, exit_closing, exit_marks, exit_opening, exit_saved, exit_writing}
use Rattle.lease_disk.proofs.Halves.{format_apart}
use Rattle.lease_disk.proofs.Stops.{stops_closing, stops_filling, stops_opening}

-- ---- beside the half that is written

abbrev IsWithin : (gate at m : ℕ) → Type 0
IsWithin gate at m = (i : ℕ) → is_within gate 256 i ≡ false → is_within at m i ≡ false

within : (gate at m : ℕ) → gate ≤ at → at + m ≤ gate + 256 → IsWithin gate at m
within gate at m start end i outside = grind (arith, start, end, outside)

beside_none : (gate : ℕ) (r : Region) → OthersUnchanged gate 256 r r
beside_none gate r = record { byte = λ i h. refl; unsynced = λ i h. refl }

beside_written : (gate at : ℕ) (bytes : List ℕ) (r0 r1 r2 : Region) → IsWithin gate at (length bytes) → IsClean r0 → OthersUnchanged gate 256 r0 r1 → r2 ≡ synced (written at bytes r1) → OthersUnchanged gate 256 r0 r2
beside_written gate at bytes r0 r1 r2 narrow clean beside is = record {
  byte = λ i h. ap (λ (r : Region). r.byte i) is ∙ ap (λ b. if b then slice_index bytes (i - at) else r1.byte i) (narrow i h) ∙ beside.byte i h;
  unsynced = λ i h. ap (λ (r : Region). r.unsynced i) is ∙ sym (clean.each i);
}

beside_torn : (gate at m : ℕ) (r0 r1 r : Region) → IsWithin gate at m → OthersUnchanged gate 256 r0 r1 → IsTorn at m r1 r → OthersUnchanged gate 256 r0 r
beside_torn gate at m r0 r1 r narrow beside torn = record {
  byte = λ i h. torn.byte i (narrow i h) ∙ beside.byte i h;
  unsynced = λ i h. torn.unsynced i ∙ ap (λ b. b || r1.unsynced i) (narrow i h) ∙ beside.unsynced i h;
}

-- the byte of the format stands outside every half
format_stays : (s gate : ℕ) (which : Half) (old new : Region) → gate ≡ half_at s which → is_format2 old.byte ≡ true → OthersUnchanged gate 256 old new → is_format2 new.byte ≡ true
format_stays s gate which old new is two beside = (λ j. beside.byte 8192 (subst (λ a. is_within a 256 8192 ≡ false) (sym is) (format_apart s which)) j == 2) ∙ two

few : (was_open : Bool) → length {A = ℕ} (if was_open then 0 ∷ [] else []) ≤ 1
few true = omega arith
few false = omega arith

-- ---- which call failed

pub is_early : (k : ℕ) → false ≡ (effective 2 k == 0) → effective 6 k ≡ k
is_early k e = grind arith

pub is_some_early : (k : ℕ) → false ≡ (effective 2 k == 0) → k ≢ 0
is_some_early k e = λ none. absurd (grind (arith, none))

pub is_middle : (k k1 : ℕ) → k1 ≡ k - 2 → false ≡ (effective 2 k1 == 0) → effective 6 k ≡ k
is_middle k k1 f e = grind arith

pub is_some_middle : (k k1 : ℕ) → k1 ≡ k - 2 → false ≡ (effective 2 k1 == 0) → k ≢ 0
is_some_middle k k1 f e = λ none. absurd (grind (arith, none))

pub is_late : (k k1 k2 : ℕ) → k1 ≡ k - 2 → k2 ≡ k1 - 2 → false ≡ (effective 2 k2 == 0) → effective 6 k ≡ k
is_late k k1 k2 f g e = grind arith

pub is_some_late : (k k1 k2 : ℕ) → k1 ≡ k - 2 → k2 ≡ k1 - 2 → false ≡ (effective 2 k2 == 0) → k ≢ 0
is_some_late k k1 k2 f g e = λ none. absurd (grind (arith, none))

pub is_none : (k k1 k2 : ℕ) → k1 ≡ k - 2 → k2 ≡ k1 - 2 → true ≡ (effective 2 k == 0) → true ≡ (effective 2 k1 == 0) → true ≡ (effective 2 k2 == 0) → effective 6 k ≡ 0
is_none k k1 k2 f g e e1 e2 = grind arith

early_most : (k : ℕ) → false ≡ (effective 2 k == 0) → k ≤ 2
early_most k e = grind arith

middle_least : (k k1 : ℕ) → k1 ≡ k - 2 → false ≡ (effective 2 k1 == 0) → 3 ≤ k
middle_least k k1 f e = grind arith

middle_most : (k k1 : ℕ) → k1 ≡ k - 2 → false ≡ (effective 2 k1 == 0) → k ≤ 4
middle_most k k1 f e = grind arith

late_least : (k k1 k2 : ℕ) → k1 ≡ k - 2 → k2 ≡ k1 - 2 → false ≡ (effective 2 k2 == 0) → 5 ≤ k
late_least k k1 k2 f g e = grind arith

late_most : (k k1 k2 : ℕ) → k1 ≡ k - 2 → k2 ≡ k1 - 2 → false ≡ (effective 2 k2 == 0) → k ≤ 6
late_most k k1 k2 f g e = grind arith

-- an even call is a sync
early_sync : (k : ℕ) → k ≢ 0 → k ≤ 2 → k % 2 ≡ 0 → k ≡ 2
early_sync k some most even = omega (arith, some, most, even)

middle_sync : (k k1 : ℕ) → k1 ≡ k - 2 → 3 ≤ k → k ≤ 4 → k % 2 ≡ 0 → k1 ≡ 2
middle_sync k k1 f least most even = omega (arith, f, least, most, even)

late_sync : (k k1 k2 : ℕ) → k1 ≡ k - 2 → k2 ≡ k1 - 2 → 5 ≤ k → k ≤ 6 → k % 2 ≡ 0 → k2 ≡ 2
late_sync k k1 k2 f g least most even = omega (arith, f, g, least, most, even)

drop_size : (xs : List ℕ) → length xs ≡ 256 → length (drop 1 xs) ≡ 255
drop_size [] size = absurd (omega (arith, size))
drop_size (x ∷ xs) size = omega (arith, size)

-- ---- the exits

module _ (s : ℕ) (known : Marks) (at n clock : ℕ) (content : Content) (whole bytes : List ℕ) (r0 : Region) (given : IsSave s (mark_at known s) at n clock content whole bytes r0) where
  size : length bytes ≡ 255
  size = ap length given.bytes_are ∙ drop_size whole given.size

  abbrev gate : ℕ
  gate = gate_at s (mark_at known s)

  abbrev closed : List ℕ
  closed = if (mark_at known s).other_open then 0 ∷ [] else []

  inside : (from m : ℕ) → at ≤ from → from + m ≤ at + 256 → IsWithin gate from m
  inside from m start end = subst (λ a. IsWithin a from m) given.at_is (within at from m start end)

  near : IsWithin gate at (length closed)
  near = let small = few (mark_at known s).other_open in inside at (length closed) (omega arith) (omega (arith, small))

  behind : IsWithin gate (at + 1) (length bytes)
  behind = inside (at + 1) (length bytes) (omega arith) (omega (arith, size))

  first : IsWithin gate at 1
  first = inside at 1 (omega arith) (omega arith)

  -- a call failed, and this is what is left
  failing : (k : ℕ) (r : Region) → k ≢ 0
      → ((counts : List ℕ) (slots : Slots) → recovered counts r0.byte ≡ Some slots → IsChange counts clock s content slots → IsLeft k gate (Some slots) (Some (with_slot clock s content slots)) counts r)
      → OthersUnchanged gate 256 r0 r → IsStopped k s (mark_at known s) clock content r0 r → IsSaveOf k clock s content known known r0 r
  failing k r some left beside stopped = record {
    saved = λ none. absurd (some none);
    bytes = λ none. absurd (some none);
    clean = λ none. absurd (some none);
    marks = λ none. absurd (some none);
    kept = λ not_none. refl;
    failed = λ not_none. left;
    stopped = λ not_none. stopped;
    format = format_stays s gate (other (mark_at known s).half) r0 r refl given.two beside;
    beside = beside;
  }

  pub save_closing : (k : ℕ) (r : Region) → k ≢ 0 → false ≡ (effective 2 k == 0) → IsTorn at (length closed) r0 r → (k ≡ 2 → r ≡ written at closed r0) → IsSaveOf k clock s content known known r0 r
  save_closing k r some answer torn reads =
      let most = early_most k answer in
      failing k r some (λ counts slots was change. exit_closing s (mark_at known s) at n clock content whole bytes r0 given k counts slots was change r torn answer)
      (beside_torn gate at (length closed) r0 r0 r near (beside_none gate r0) torn)
      (stops_closing s (mark_at known s) at n clock content whole bytes r0 given k r most torn (λ even. reads (early_sync k some most even)))

  module _ (r1 : Region) (is1 : r1 ≡ synced (written at closed r0)) where
    beside1 : OthersUnchanged gate 256 r0 r1
    beside1 = beside_written gate at closed r0 r0 r1 near given.clean (beside_none gate r0) is1

    pub save_writing : (k k1 : ℕ) (r : Region) → k ≢ 0 → k1 ≡ k - 2 → false ≡ (effective 2 k1 == 0) → IsTorn (at + 1) (length bytes) r1 r → (k1 ≡ 2 → r ≡ written (at + 1) bytes r1)
        → IsSaveOf k clock s content known known r0 r
    save_writing k k1 r some f answer torn reads =
        let least = middle_least k k1 f answer in
        let most = middle_most k k1 f answer in
        failing k r some (λ counts slots was change. exit_writing s (mark_at known s) at n clock content whole bytes r0 given r1 is1 k k1 counts slots was change r f torn answer)
        (beside_torn gate (at + 1) (length bytes) r0 r1 r behind beside1 torn)
        (stops_filling s (mark_at known s) at n clock content whole bytes r0 given size r1 is1 k r least most torn (λ even. reads (middle_sync k k1 f least most even)))

    module _ (r2 : Region) (is2 : r2 ≡ synced (written (at + 1) bytes r1)) where
      beside2 : OthersUnchanged gate 256 r0 r2
      beside2 = beside_written gate (at + 1) bytes r0 r1 r2 behind given.clean beside1 is2

      pub save_opening : (k k1 k2 : ℕ) (r : Region) → k ≢ 0 → k1 ≡ k - 2 → k2 ≡ k1 - 2 → false ≡ (effective 2 k2 == 0) → IsTorn at 1 r2 r → (k2 ≡ 2 → r ≡ written at (gate_open ∷ []) r2)
          → IsSaveOf k clock s content known known r0 r
      save_opening k k1 k2 r some f g answer torn reads =
          let least = late_least k k1 k2 f g answer in
          failing k r some (λ counts slots was change. exit_opening s (mark_at known s) at n clock content whole bytes r0 given r1 is1 r2 is2 k k1 k2 counts slots was change r f g torn answer)
          (beside_torn gate at 1 r0 r2 r first beside2 torn)
          (stops_opening s (mark_at known s) at n clock content whole bytes r0 given size r1 is1 r2 is2 k r least torn (λ even. reads (late_sync k k1 k2 f g least (late_most k k1 k2 f g answer) even)))

      pub save_done : (r3 : Region) → r3 ≡ synced (written at (gate_open ∷ []) r2) → (o : Half) → o ≡ other (mark_at known s).half → s < length known.slots
          → IsSaveOf 0 clock s content known (record { slots = set known.slots s (record { half = o; sequence = n; other_open = true }) }) r0 r3
      save_done r3 is3 o half there =
          let beside : OthersUnchanged gate 256 r0 r3 = beside_written gate at (gate_open ∷ []) r0 r2 r3 first given.clean beside2 is3 in
          record {
            saved = λ none counts slots was change. exit_saved s (mark_at known s) at n clock content whole bytes r0 given r1 is1 r2 is2 r3 is3 counts slots was change;
            bytes = λ none. exit_bytes s (mark_at known s) at n clock content whole bytes r0 given r1 is1 r2 is2 r3 is3;
            clean = λ none. record { each = λ i. ap (λ (r : Region). r.unsynced i) is3 };
            marks = λ none counts are. exit_marks s (mark_at known s) at n clock content whole bytes r0 given r1 is1 r2 is2 r3 is3 counts known o half there are;
            kept = λ some. absurd (some refl);
            failed = λ some. absurd (some refl);
            stopped = λ some. absurd (some refl);
            format = format_stays s gate (other (mark_at known s).half) r0 r3 refl given.two beside;
            beside = beside;
          }

-- ---- what a caller of `save` has

pub when_saved : {T E P : Type 0} (result : Result T E) (k : ℕ) → is_ok result ≡ (k == 0) → (k ≡ 0 → P) → OnOk result P
when_saved (Ok x) k answer holds = holds (grind (arith, answer))
when_saved (Err e) k answer holds = tt
