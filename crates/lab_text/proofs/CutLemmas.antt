-- Where a line is cut into fields.
use Rattle.std.proofs.Common.{◌≡◌, ℕ, ◌+◌, ◌<◌, true, cond, eqb, List, [], ◌∷◌, ◌++◌, length, take, drop, get_or, refl, ap, sym, ◌∙◌}
use Rattle.streams.specs.Lines.{lacks, with_byte}
use Rattle.streams.proofs.CutLemmas.{around, not_here}
use Rattle.lab_text.specs.Fields.{fields_of}

field_front : (front rest : List ℕ) → lacks 32 front ≡ true → fields_of (front ++ 32 ∷ rest) ≡ front ∷ fields_of rest
unfolding lacks fields_of
field_front [] rest h = refl
field_front (b ∷ bs) rest h =
    let n = not_here (eqb b 32) (lacks 32 bs) h in
    ap (λ t. cond t ([] ∷ fields_of (bs ++ 32 ∷ rest)) (with_byte b (fields_of (bs ++ 32 ∷ rest)))) n.0
    ∙ ap (with_byte b) (field_front bs rest n.1)

-- the field before a space
pub field_before : (line : List ℕ) (i : ℕ) → i < length line → get_or line i 0 ≡ 32 → lacks 32 (take i line) ≡ true → fields_of line ≡ take i line ∷ fields_of (drop (i + 1) line)
field_before line i inside space h = ap fields_of (sym (around line i 32 inside space)) ∙ field_front (take i line) (drop (i + 1) line) h

-- a line without a space is one field
pub field_alone : (line : List ℕ) → lacks 32 line ≡ true → fields_of line ≡ line ∷ []
unfolding lacks fields_of
field_alone [] h = refl
field_alone (b ∷ bs) h =
    let n = not_here (eqb b 32) (lacks 32 bs) h in
    ap (λ t. cond t ([] ∷ fields_of bs) (with_byte b (fields_of bs))) n.0 ∙ ap (with_byte b) (field_alone bs n.1)
