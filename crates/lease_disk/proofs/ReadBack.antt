-- What is written to a half is what is read from it.
use Rattle.std.proofs.Common.{◌≡◌, ℕ, ◌+◌, ◌-◌, ◌<◌, ◌≤◌, true, false, nat_le, nat_lt, suc, List, [], ◌∷◌, ◌++◌, length, replicate, get_or, slice_index, Option, Some, refl, ap, ◌∙◌, arith}
use Rattle.std.specs.Int.{w32, w64, to_be_bytes, from_be_bytes}
use Rattle.std.proofs.lemmas.List.{get_or-append-add}
use Rattle.std.proofs.lemmas.Nat.{from_be_bytes-to_be_bytes_8, from_be_bytes-to_be_bytes_4}
use Rattle.std.proofs.Math.ListN.{get_or-append}
use Rattle.types.specs.declared.slot4.Slot4.{Slot4}
use Rattle.types.specs.declared.slot4.Slot4.TheVariants as S4
use Rattle.types.specs.declared.slot6.Slot6.{Slot6}
use Rattle.types.specs.declared.slot6.Slot6.TheVariants as S6
use Rattle.types.specs.Slots.{IsWithin4, IsWithin6, last_until}
use Rattle.lease_disk.specs.declared.content.Content.TheVariants.{Four, Six}
use Rattle.lease_disk.specs.HalfBytes.{half_with, half_bytes}
use Rattle.lease_disk.specs.Keys.{HasKey}
use Rattle.lease_disk.specs.Recovered.{bytes_at, clock_of, slot4_of, slot6_of, saved_at, held, last_clock}

-- bytes one after the other
bytes_read : (f : ℕ → ℕ) (at : ℕ) (xs : List ℕ) → ((j : ℕ) → j < length xs → f (at + j) ≡ get_or xs j 0) → bytes_at f at (length xs) ≡ xs
bytes_read f at [] h = refl
bytes_read f at (x ∷ xs) h =
    let first : f at ≡ x = ap f (omega arith) ∙ h 0 (omega arith) in
    let rest = bytes_read f (suc at) xs (λ j k. let e : suc at + j ≡ at + suc j = omega arith in ap f e ∙ h (suc j) (omega arith)) in
    λ i. first i ∷ rest i

bytes_behind : (pre xs post : List ℕ) (n : ℕ) → n ≡ length pre → bytes_at (slice_index (pre ++ (xs ++ post))) n (length xs) ≡ xs
bytes_behind pre xs post n e = bytes_read _ n xs (λ j h. rw e (get_or-append-add pre (xs ++ post) j 0 ∙ get_or-append xs post 0 j h))

not_past : (until : ℕ) → until ≤ last_until → nat_lt last_until until ≡ false
not_past until h = grind arith

at_least : (a b : ℕ) → a ≤ b → nat_le a b ≡ true
at_least a b h = grind arith

fits_8 : (until : ℕ) → until ≤ last_until → from_be_bytes w64 (to_be_bytes w64 until) ≡ until
fits_8 until h = from_be_bytes-to_be_bytes_8 until (omega arith)

clock_read : (sequence state iaid clock until : ℕ) (key : List ℕ) → clock ≤ last_clock → clock_of (slice_index (half_with sequence state iaid clock until key)) ≡ clock
clock_read sequence state iaid clock until key h = from_be_bytes-to_be_bytes_8 clock (omega arith)

-- what stands before the key
abbrev front : ℕ → ℕ → ℕ → ℕ → ℕ → ℕ → List ℕ
front sequence state iaid clock until n =
    (0xa5 ∷ state ∷ n ∷ sequence ∷ []) ++ to_be_bytes w32 iaid ++ to_be_bytes w64 clock ++ to_be_bytes w64 until ++ replicate 8 0

key_read : (sequence state iaid clock until : ℕ) (key : List ℕ) → bytes_at (slice_index (half_with sequence state iaid clock until key)) 32 (length key) ≡ key
key_read sequence state iaid clock until key = bytes_behind (front sequence state iaid clock until (length key)) key (replicate (224 - length key) 0) 32 refl

slot4_read : (slot : Slot4) (sequence clock : ℕ) → HasKey (Four slot) → IsWithin4 slot → slot4_of (slice_index (half_bytes sequence clock (Four slot))) ≡ Some slot
slot4_read S4.Free sequence clock k w = refl
slot4_read (S4.Bound key until) sequence clock k w =
    rw (
      fits_8 until w,
      not_past until w,
      at_least 2 (length key) k.0,
      at_least (length key) 64 k.1,
      key_read sequence 1 0 clock until key,
    ) refl
slot4_read (S4.Barred until) sequence clock k w = rw (fits_8 until w, not_past until w) refl

slot6_read : (slot : Slot6) (sequence clock : ℕ) → HasKey (Six slot) → IsWithin6 slot → slot6_of (slice_index (half_bytes sequence clock (Six slot))) ≡ Some slot
slot6_read S6.Free sequence clock k w = refl
slot6_read (S6.Bound key until) sequence clock k w =
    rw (
      fits_8 until w,
      not_past until w,
      at_least 3 (length key.duid) k.0,
      at_least (length key.duid) 130 k.1,
      from_be_bytes-to_be_bytes_4 key.iaid k.2,
      key_read sequence 1 key.iaid clock until key.duid,
    ) refl
slot6_read (S6.Barred until) sequence clock k w = rw (fits_8 until w, not_past until w) refl

module _ {A : Type 0} (read : (ℕ → ℕ) → Option A) where
  pub held_is : (half : ℕ → ℕ) (clock : ℕ) (content : A) → clock_of half ≡ clock → clock ≤ last_clock → read half ≡ Some content → held read half ≡ Some (saved_at clock content)
  held_is half clock content c small e = rw (c, at_least clock last_clock small, e) refl

clock4 : (slot : Slot4) (sequence clock : ℕ) → clock ≤ last_clock → clock_of (slice_index (half_bytes sequence clock (Four slot))) ≡ clock
clock4 S4.Free sequence clock h = clock_read sequence 0 0 clock 0 [] h
clock4 (S4.Bound key until) sequence clock h = clock_read sequence 1 0 clock until key h
clock4 (S4.Barred until) sequence clock h = clock_read sequence 2 0 clock until [] h

clock6 : (slot : Slot6) (sequence clock : ℕ) → clock ≤ last_clock → clock_of (slice_index (half_bytes sequence clock (Six slot))) ≡ clock
clock6 S6.Free sequence clock h = clock_read sequence 0 0 clock 0 [] h
clock6 (S6.Bound key until) sequence clock h = clock_read sequence 1 key.iaid clock until key.duid h
clock6 (S6.Barred until) sequence clock h = clock_read sequence 2 0 clock until [] h

-- a half is read as the slot that was written
pub held4 : (slot : Slot4) (sequence clock : ℕ) → clock ≤ last_clock → HasKey (Four slot) → IsWithin4 slot → held slot4_of (slice_index (half_bytes sequence clock (Four slot))) ≡ Some (saved_at clock slot)
held4 slot sequence clock small k w = held_is slot4_of (slice_index (half_bytes sequence clock (Four slot))) clock slot (clock4 slot sequence clock small) small (slot4_read slot sequence clock k w)

pub held6 : (slot : Slot6) (sequence clock : ℕ) → clock ≤ last_clock → HasKey (Six slot) → IsWithin6 slot → held slot6_of (slice_index (half_bytes sequence clock (Six slot))) ≡ Some (saved_at clock slot)
held6 slot sequence clock small k w = held_is slot6_of (slice_index (half_bytes sequence clock (Six slot))) clock slot (clock6 slot sequence clock small) small (slot6_read slot sequence clock k w)
