-- Where a text is cut into lines.
use Rattle.std.proofs.Common.{◌≡◌, ℕ, ◌+◌, ◌<◌, Bool, true, false, cond, eqb, List, [], ◌∷◌, ◌++◌, length, take, drop, get_or, refl, ap, sym, ◌∙◌, ne_eqb}
use Rattle.std.proofs.lemmas.Bool.{false≢true}
use Rattle.std.proofs.lemmas.List.{take_more, drop_more, take-append-drop}
use Rattle.streams.specs.Lines.{lacks, with_byte, lines_of}

pub not_here : (t x : Bool) → cond t false x ≡ true → (t ≡ false) × (x ≡ true)
not_here true x h = absurd (false≢true h)
not_here false x h = (refl, h)

pub lacks_more : (s b : ℕ) (bs : List ℕ) → lacks s bs ≡ true → eqb b s ≡ false → lacks s (bs ++ b ∷ []) ≡ true
unfolding lacks
lacks_more s b [] h e = ap (λ t. cond t false true) e
lacks_more s b (c ∷ cs) h e =
    let n = not_here (eqb c s) (lacks s cs) h in
    ap (λ t. cond t false (lacks s (cs ++ b ∷ []))) n.0 ∙ lacks_more s b cs n.1 e

-- one byte more of a list
pub lacks_next : (s : ℕ) (bs : List ℕ) (i : ℕ) → i < length bs → (get_or bs i 0 ≡ s → ⊥) → lacks s (take i bs) ≡ true → lacks s (take (i + 1) bs) ≡ true
lacks_next s bs i inside other h =
    ap (lacks s) (take_more bs i 0 inside) ∙ lacks_more s (get_or bs i 0) (take i bs) h (ne_eqb _ _ other)

pub lacks_none : (s : ℕ) → lacks s [] ≡ true
unfolding lacks
lacks_none s = refl

-- a list around one of its elements
pub around : (bs : List ℕ) (i b : ℕ) → i < length bs → get_or bs i 0 ≡ b → take i bs ++ b ∷ drop (i + 1) bs ≡ bs
around bs i b inside is =
    ap (λ x. take i bs ++ x ∷ drop (i + 1) bs) (sym is) ∙ ap (λ rest. take i bs ++ rest) (sym (drop_more bs i 0 inside)) ∙ take-append-drop i bs

-- the line in front of a line feed
pub line_before : (front rest : List ℕ) → lacks 10 front ≡ true → lines_of (front ++ 10 ∷ rest) ≡ front ∷ lines_of rest
unfolding lacks lines_of
line_before [] rest h = refl
line_before (b ∷ bs) rest h =
    let n = not_here (eqb b 10) (lacks 10 bs) h in
    ap (λ t. cond t ([] ∷ lines_of (bs ++ 10 ∷ rest)) (with_byte b (lines_of (bs ++ 10 ∷ rest)))) n.0
    ∙ ap (with_byte b) (line_before bs rest n.1)

-- how a text goes on that begins with this part of a line
pub record Begins (front : List ℕ) (lines : List (List ℕ)) : Type 0 where
  pub more : List ℕ
  pub others : List (List ℕ)
  pub is : lines ≡ (front ++ more) ∷ others

begins_byte : (b : ℕ) (lines : List (List ℕ)) → Begins (b ∷ []) (with_byte b lines)
begins_byte b [] = record { more = []; others = []; is = refl }
begins_byte b (line ∷ lines) = record { more = line; others = lines; is = refl }

begins_more : (b : ℕ) (front : List ℕ) (lines : List (List ℕ)) → Begins front lines → Begins (b ∷ front) (with_byte b lines)
begins_more b front lines h = record { more = h.more; others = h.others; is = ap (with_byte b) h.is }

begins_at : (t : Bool) (front : List ℕ) (x y : List (List ℕ)) → t ≡ false → Begins front y → Begins front (cond t x y)
begins_at t front x y differs h = record { more = h.more; others = h.others; is = ap (λ v. cond v x y) differs ∙ h.is }

pub line_begins : (b : ℕ) (front rest : List ℕ) → lacks 10 (b ∷ front) ≡ true → Begins (b ∷ front) (lines_of ((b ∷ front) ++ rest))
unfolding lacks lines_of
line_begins b [] rest h =
    let n = not_here (eqb b 10) (lacks 10 []) h in
    begins_at (eqb b 10) (b ∷ []) ([] ∷ lines_of rest) (with_byte b (lines_of rest)) n.0 (begins_byte b (lines_of rest))
line_begins b (c ∷ front) rest h =
    let n = not_here (eqb b 10) (lacks 10 (c ∷ front)) h in
    begins_at (eqb b 10) (b ∷ c ∷ front) ([] ∷ lines_of ((c ∷ front) ++ rest)) (with_byte b (lines_of ((c ∷ front) ++ rest))) n.0
    (begins_more b (c ∷ front) (lines_of ((c ∷ front) ++ rest)) (line_begins c front rest n.1))

-- the last line, which lacks its line feed
pub line_last : (b : ℕ) (front : List ℕ) → lacks 10 (b ∷ front) ≡ true → lines_of (b ∷ front) ≡ (b ∷ front) ∷ []
unfolding lacks lines_of
line_last b [] h =
    let n = not_here (eqb b 10) (lacks 10 []) h in
    ap (λ t. cond t ([] ∷ []) ((b ∷ []) ∷ [])) n.0
line_last b (c ∷ front) h =
    let n = not_here (eqb b 10) (lacks 10 (c ∷ front)) h in
    ap (λ t. cond t ([] ∷ lines_of (c ∷ front)) (with_byte b (lines_of (c ∷ front)))) n.0 ∙ ap (with_byte b) (line_last c front n.1)
