-- Where an option of a list stands in its bytes.
use Rattle.std.proofs.Common.{◌≡◌, ℕ, ◌+◌, ◌<◌, List, [], ◌∷◌, ◌++◌, length, drop, get_or, Some, refl, sym, ap, ◌∙◌, append_assoc, arith}
use Rattle.std.proofs.Math.Seq.{take-append_seam}
use Rattle.std.proofs.lemmas.Bool.{ne_eqb}
use Rattle.std.proofs.lemmas.List.{drop_at, get_or-drop, length-append}
use Rattle.v4_options.specs.Places.{IsWithin, value_at}
use Rattle.v4_options.specs.Spelling.{option}

-- After the code stand the length of the value, and the value.
after_code : (bytes before left value new : List ℕ) (code place : ℕ) → before ++ left ≡ bytes → left ≡ option code value ++ new → place + (length value + 1 + length new) ≡ length bytes
    → drop place bytes ≡ length value ∷ value ++ new
after_code bytes before left value new code place whole here count =
    let split : bytes ≡ (before ++ code ∷ []) ++ (length value ∷ value ++ new) = sym whole ∙ ap (λ (l : List ℕ). before ++ l) here ∙ sym (append_assoc before (code ∷ []) (length value ∷ value ++ new)) in
    let len : length (before ++ code ∷ []) ≡ place = omega (arith, count, ap length split, length-append (before ++ code ∷ []) (length value ∷ value ++ new), length-append value new) in
    ap (drop place) split ∙ drop_at (before ++ code ∷ []) (length value ∷ value ++ new) place len

pub stands : (bytes before left value new : List ℕ) (code place : ℕ) → before ++ left ≡ bytes → left ≡ option code value ++ new → place + (length value + 1 + length new) ≡ length bytes
    → (value_at bytes place ≡ Some value) × IsWithin bytes place × (get_or bytes place 0 ≡ length value)
stands bytes before left value new code place whole here count =
    let rest = after_code bytes before left value new code place whole here count in
    let some : 0 < place = omega (arith, ap length whole, length-append before left, ap length here, length-append (option code value) new, count) in
    let found : value_at bytes place ≡ Some value = rw (ne_eqb place 0 (λ e. omega (arith, e, some)), rest, take-append_seam value new) refl in
    let same : place ≡ place + 0 = omega arith in
    let first : get_or bytes place 0 ≡ length value = ap (λ (k : ℕ). get_or bytes k 0) same ∙ sym (get_or-drop place bytes 0 0) ∙ ap (λ (l : List ℕ). get_or l 0 0) rest in
    (found, (omega (arith, count), omega (arith, count, first)), first)

-- the bytes before what is left, once more of them were read
pub further : (bytes left read new : List ℕ) → (before : List ℕ) × (before ++ left ≡ bytes) → left ≡ read ++ new → (before : List ℕ) × (before ++ new ≡ bytes)
further bytes left read new at here = (at.0 ++ read, append_assoc at.0 read new ∙ ap (λ (l : List ℕ). at.0 ++ l) (sym here) ∙ at.1)
