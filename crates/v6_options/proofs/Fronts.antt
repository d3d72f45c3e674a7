-- The longest front of whole options of some bytes.
use Rattle.std.proofs.Common.{◌≡◌, ℕ, zero, suc, ◌+◌, ◌^◌, ◌<◌, ◌≤◌, inl, inr, Bool, true, false, ◌&&◌, List, [], ◌∷◌, ◌++◌, length, take, drop, get_or, refl, sym, ap, ◌∙◌, arith, append_assoc}
use Rattle.std.specs.Prelude.{nat_le}
use Rattle.std.specs.Int.{w16, to_be_bytes, from_be_bytes}
use Rattle.std.proofs.lemmas.Bool.{leb-true, leb-false}
use Rattle.std.proofs.lemmas.List.{length-take-le, take-append-drop}
use Rattle.std.proofs.lemmas.Nat.{be_bytes_2}
use Rattle.v6_options.specs.Spelling.{option, spelling, AreOptions, IsCut}
use Rattle.v6_options.specs.Reading.{code_of, len_of, value_of, is_whole}

abbrev pub AreSmall : List ℕ → Type 0
AreSmall bytes = (i : ℕ) → get_or bytes i 0 < 256

number_fits : (bytes : List ℕ) → AreSmall bytes → from_be_bytes w16 bytes < 2 ^ 16
number_fits bytes small = omega (arith, small 0, small 1)

is_small : (a b : ℕ) → a < 256 → b < 256 → AreSmall (a ∷ b ∷ [])
is_small a b x y zero = x
is_small a b x y (suc zero) = y
is_small a b x y (suc (suc i)) = omega arith

-- Two bytes are those of their number.
two : (a b : ℕ) (more : List ℕ) (n : ℕ) → a < 256 → b < 256 → n ≡ from_be_bytes w16 (a ∷ b ∷ more) → to_be_bytes w16 n ≡ a ∷ b ∷ []
two a b more n x y is = be_bytes_2 (a ∷ b ∷ []) n refl (is_small a b x y) is

-- What a whole option is made of.
pub record Parts (bytes : List ℕ) : Type 0 where
  pub whole : bytes ≡ option (code_of bytes) (value_of bytes) ++ drop (3 + length (value_of bytes)) (drop 1 bytes)
  pub code : code_of bytes < 2 ^ 16
  pub size : length (value_of bytes) < 2 ^ 16

is_long : (bytes : List ℕ) → is_whole bytes ≡ true → (4 + len_of bytes) ≤ length bytes
is_long bytes e = by (nat_le 4 (length bytes)) (nat_le (4 + len_of bytes) (length bytes)) refl e where
  by : (a b : Bool) → nat_le (4 + len_of bytes) (length bytes) ≡ b → (a && b) ≡ true → (4 + len_of bytes) ≤ length bytes
  by true true h e = leb-true (4 + len_of bytes) (length bytes) h
  by true false h e = absurd cc
  by false b h e = absurd cc

pub parts : (bytes : List ℕ) → AreSmall bytes → is_whole bytes ≡ true → Parts bytes
parts [] small e = absurd cc
parts (a ∷ []) small e = absurd cc
parts (a ∷ b ∷ []) small e = absurd cc
parts (a ∷ b ∷ c ∷ []) small e = absurd cc
parts (a ∷ b ∷ c ∷ d ∷ more) small e =
    let bytes = a ∷ b ∷ c ∷ d ∷ more in
    let len : ℕ = len_of bytes in
    let v : List ℕ = take len more in
    let fits : len ≤ length more = omega (arith, is_long bytes e) in
    let is_len : length v ≡ len = length-take-le len more fits in
    let small_len : len < 2 ^ 16 = number_fits (c ∷ d ∷ more) (λ i. small (suc (suc i))) in
    let first = two a b (c ∷ d ∷ more) (code_of bytes) (small 0) (small 1) refl in
    let second = two c d more (length v) (small 2) (small 3) is_len in
    let skip : 3 + length v ≡ suc (suc (suc len)) = omega (arith, is_len) in
    record {
      whole = sym (
          ap (λ (t : List ℕ). (t ++ (to_be_bytes w16 (length v) ++ v)) ++ drop (3 + length v) (drop 1 bytes)) first
          ∙ ap (λ (t : List ℕ). a ∷ b ∷ (t ++ v) ++ drop (3 + length v) (drop 1 bytes)) second
          ∙ ap (λ (n : ℕ). a ∷ b ∷ c ∷ d ∷ v ++ drop n (drop 1 bytes)) skip
          ∙ ap (λ (t : List ℕ). a ∷ b ∷ c ∷ d ∷ t) (take-append-drop len more)
          );
      code = number_fits bytes small;
      size = omega (arith, is_len, small_len);
    }

pub cut : (byte : ℕ) (bytes : List ℕ) → is_whole (byte ∷ bytes) ≡ false → IsCut (byte ∷ bytes)
cut byte bytes e = by (nat_le 4 (length (byte ∷ bytes))) (nat_le (4 + len_of (byte ∷ bytes)) (length (byte ∷ bytes))) refl refl e where
  by : (a b : Bool) → nat_le 4 (length (byte ∷ bytes)) ≡ a → nat_le (4 + len_of (byte ∷ bytes)) (length (byte ∷ bytes)) ≡ b → (a && b) ≡ false → IsCut (byte ∷ bytes)
  by false b g h e = (omega arith, inl (leb-false 4 (length (byte ∷ bytes)) g))
  by true false g h e = (omega arith, inr (leb-false (4 + len_of (byte ∷ bytes)) (length (byte ∷ bytes)) h))
  by true true g h e = absurd cc

-- What follows the options: nothing, or what is no whole option.
abbrev pub Ends : Bool → List ℕ → Type 0
Ends false rest = rest ≡ []
Ends true rest = IsCut rest

pub record Longest (bytes : List ℕ) : Type 0 where
  pub is_cut : Bool
  pub front : List (ℕ × List ℕ)
  pub rest : List ℕ
  pub whole : bytes ≡ spelling front ++ rest
  pub options : AreOptions front
  pub ends : Ends is_cut rest

step : (byte : ℕ) (bytes : List ℕ) (b : Bool) → is_whole (byte ∷ bytes) ≡ b → AreSmall (byte ∷ bytes) → Longest (drop (3 + length (value_of (byte ∷ bytes))) bytes) → Longest (byte ∷ bytes)
step byte bytes false e small l = record { is_cut = true; front = []; rest = byte ∷ bytes; whole = refl; options = tt; ends = cut byte bytes e }
step byte bytes true e small l =
    let p = parts (byte ∷ bytes) small e in
    let o = option (code_of (byte ∷ bytes)) (value_of (byte ∷ bytes)) in
    record {
      is_cut = l.is_cut;
      front = (code_of (byte ∷ bytes), value_of (byte ∷ bytes)) ∷ l.front;
      rest = l.rest;
      whole = p.whole ∙ ap (λ (t : List ℕ). o ++ t) l.whole ∙ sym (append_assoc o (spelling l.front) l.rest);
      options = (p.code, p.size, l.options);
      ends = l.ends;
    }

pub longest : (skip : ℕ) (bytes : List ℕ) → AreSmall bytes → Longest (drop skip bytes)
longest zero [] small = record { is_cut = false; front = []; rest = []; whole = refl; options = tt; ends = refl }
longest (suc skip) [] small = record { is_cut = false; front = []; rest = []; whole = refl; options = tt; ends = refl }
longest (suc skip) (byte ∷ bytes) small = longest skip bytes (λ i. small (suc i))
longest zero (byte ∷ bytes) small =
    step byte bytes (is_whole (byte ∷ bytes)) refl small (longest (3 + length (value_of (byte ∷ bytes))) bytes (λ i. small (suc i)))
