-- One step of reading: an option that is cut off, and a whole one.
use Rattle.std.proofs.Common.{◌≡◌, ℕ, zero, suc, ◌+◌, ◌^◌, ◌<◌, ◌≤◌, ◌⊎◌, inl, inr, Bool, true, false, ◌&&◌, List, [], ◌∷◌, ◌++◌, length, take, drop, refl, ap, ◌∙◌, arith}
use Rattle.std.specs.Prelude.{nat_le}
use Rattle.std.specs.Int.{w16, from_be_bytes}
use Rattle.std.proofs.Math.Seq.{take-append_seam, drop-append_seam}
use Rattle.std.proofs.lemmas.Bool.{le-leb, lt-leb}
use Rattle.std.proofs.lemmas.List.{length-append}
use Rattle.std.proofs.lemmas.Nat.{from_be_bytes-to_be_bytes_2}
use Rattle.v6_options.specs.Spelling.{option, IsCut}
use Rattle.v6_options.specs.Reading.{code_of, len_of, value_of, is_whole, listed_from, cut_from}

-- The bytes before are not read.
listed_drop : (n : ℕ) (bytes : List ℕ) → listed_from n bytes ≡ listed_from 0 (drop n bytes)
unfolding listed_from
listed_drop zero bytes = refl
listed_drop (suc n) [] = refl
listed_drop (suc n) (byte ∷ bytes) = listed_drop n bytes

cut_drop : (n : ℕ) (bytes : List ℕ) → cut_from n bytes ≡ cut_from 0 (drop n bytes)
unfolding cut_from
cut_drop zero bytes = refl
cut_drop (suc n) [] = refl
cut_drop (suc n) (byte ∷ bytes) = cut_drop n bytes

-- ---- the parts of a whole option

its_code : (code : ℕ) (v rest : List ℕ) → code < 2 ^ 16 → code_of (option code v ++ rest) ≡ code
its_code code v rest h = from_be_bytes-to_be_bytes_2 code h

its_len : (code : ℕ) (v rest : List ℕ) → length v < 2 ^ 16 → len_of (option code v ++ rest) ≡ length v
its_len code v rest h = from_be_bytes-to_be_bytes_2 (length v) h

its_value : (code : ℕ) (v rest : List ℕ) → length v < 2 ^ 16 → value_of (option code v ++ rest) ≡ v
its_value code v rest h = ap (λ n. take n (v ++ rest)) (its_len code v rest h) ∙ take-append_seam v rest

its_size : (code : ℕ) (v rest : List ℕ) → length (option code v ++ rest) ≡ 4 + length v + length rest
its_size code v rest = omega (arith, length-append v rest)

its_whole : (code : ℕ) (v rest : List ℕ) → length v < 2 ^ 16 → is_whole (option code v ++ rest) ≡ true
its_whole code v rest h =
    let size = its_size code v rest in
    let header : 4 ≤ length (option code v ++ rest) = omega (arith, size) in
    let all : 4 + length v ≤ length (option code v ++ rest) = omega (arith, size) in
    rw (its_len code v rest h, le-leb (4 + length v) (length (option code v ++ rest)) all, le-leb 4 (length (option code v ++ rest)) header) refl

three : (n : ℕ) → 3 + n ≡ suc (suc (suc n))
three n = omega arith

behind : (code : ℕ) (v rest : List ℕ) → drop (3 + length v) (drop 1 (option code v ++ rest)) ≡ rest
behind code v rest = ap (λ (n : ℕ). drop n (drop 1 (option code v ++ rest))) (three (length v)) ∙ drop-append_seam v rest

-- ---- a whole option, and one that is cut off

pub listed_nothing : listed_from 0 [] ≡ []
unfolding listed_from
listed_nothing = refl

pub cut_nothing : cut_from 0 [] ≡ false
unfolding cut_from
cut_nothing = refl

pub listed_whole : (code : ℕ) (v rest : List ℕ) → code < 2 ^ 16 → length v < 2 ^ 16 → listed_from 0 (option code v ++ rest) ≡ (code, v) ∷ listed_from 0 rest
unfolding listed_from
listed_whole code v rest two h =
    rw (its_whole code v rest h, its_code code v rest two, its_value code v rest h, listed_drop (3 + length v) (drop 1 (option code v ++ rest)), behind code v rest) refl

pub cut_whole : (code : ℕ) (v rest : List ℕ) → length v < 2 ^ 16 → cut_from 0 (option code v ++ rest) ≡ cut_from 0 rest
unfolding cut_from
cut_whole code v rest h =
    rw (its_whole code v rest h, its_value code v rest h, cut_drop (3 + length v) (drop 1 (option code v ++ rest)), behind code v rest) refl

short_is : (rest : List ℕ) → (length rest < 4) ⊎ (length rest < 4 + from_be_bytes w16 (drop 2 rest)) → is_whole rest ≡ false
short_is rest (inl h) = rw (lt-leb 4 (length rest) h) refl
short_is rest (inr h) = by (nat_le 4 (length rest)) where
  by : (b : Bool) → (b && nat_le (4 + len_of rest) (length rest)) ≡ false
  by true = lt-leb (4 + len_of rest) (length rest) h
  by false = refl

pub listed_cut : (rest : List ℕ) → IsCut rest → listed_from 0 rest ≡ []
unfolding listed_from
listed_cut [] h = refl
listed_cut (byte ∷ bytes) h = rw (short_is (byte ∷ bytes) h.1) refl

pub cut_cut : (rest : List ℕ) → IsCut rest → cut_from 0 rest ≡ true
unfolding cut_from
cut_cut [] h = absurd (omega (arith, h.0))
cut_cut (byte ∷ bytes) h = rw (short_is (byte ∷ bytes) h.1) refl
