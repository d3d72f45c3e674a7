-- A text parted at the last of some bytes.
use Rattle.std.proofs.Common.{◌≡◌, ℕ, zero, suc, ◌+◌, ◌<◌, Bool, true, false, eqb, eqb-true, List, [], ◌∷◌, length, take, drop, slice_index, refl, ap, ◌∙◌, arith}
use Rattle.std.specs.Prelude.{Some, None}
use Rattle.lab_text.specs.Fields.{or_here, parted_last}

not_here : (b byte : ℕ) (text : List ℕ) (t : Bool) → eqb b byte ≡ t → (b ≡ byte → ⊥) → or_here t b text None ≡ None
not_here b byte text true e h = absurd (h (eqb-true b byte e))
not_here b byte text false e h = refl

is_here : (b byte : ℕ) (text : List ℕ) (t : Bool) → eqb b byte ≡ t → (t ≡ true) → or_here t b text None ≡ Some ([], text)
is_here b byte text true e h = refl
is_here b byte text false e h = absurd (cc)

pub not_parted : (byte : ℕ) (text : List ℕ) → ((k : ℕ) → k < length text → slice_index text k ≡ byte → ⊥) → parted_last byte text ≡ None
unfolding parted_last
not_parted byte [] h = refl
not_parted byte (b ∷ text) h =
    ap (or_here (eqb b byte) b text) (not_parted byte text (λ k less. h (suc k) (omega arith)))
    ∙ not_here b byte text (eqb b byte) refl (h 0 (omega arith))

pub is_parted : (byte : ℕ) (text : List ℕ) (i : ℕ) → i < length text → eqb (slice_index text i) byte ≡ true → ((k : ℕ) → i < k → k < length text → slice_index text k ≡ byte → ⊥)
    → parted_last byte text ≡ Some (take i text, drop (i + 1) text)
unfolding parted_last
is_parted byte [] i inside here h = absurd (omega arith)
is_parted byte (b ∷ text) zero inside here h =
    ap (or_here (eqb b byte) b text) (not_parted byte text (λ k less. h (suc k) (omega arith) (omega arith)))
    ∙ is_here b byte text (eqb b byte) refl here
is_parted byte (b ∷ text) (suc i) inside here h =
    let e : suc (i + 1) ≡ suc i + 1 = omega arith in
    ap (or_here (eqb b byte) b text) (is_parted byte text i (omega arith) here (λ k more less. h (suc k) (omega arith) (omega arith)))
    ∙ ap (λ n. Some (b ∷ take i text, drop n (b ∷ text))) e
