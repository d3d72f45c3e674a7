-- The parts of a batch that are written one after the other.
use Rattle.std.proofs.Common.{◌≡◌, ℕ, zero, suc, ◌+◌, ◌-◌, ◌<◌, ◌≤◌, List, [], ◌∷◌, ◌++◌, map, length, take, drop, get_or, codes, refl, ap, subst, sym, ◌∙◌, arith, append_assoc}
use Rattle.std.specs.Prelude.{Option, None, slice_index_or, slice_range}
use Rattle.std.specs.Io.KnownBytes.{Appends}
use Rattle.std.proofs.lemmas.List.{take-append-drop, at_drop_more}
use Rattle.events.specs.declared.batch.PartOutcome.{PartOutcome}
use Rattle.events.specs.declared.outcome.Outcome.TheVariants as outcome
use Rattle.streams.specs.Writing.{AppendsPrefix}
use Rattle.streams.proofs.WriteLemmas.{front_behind, front_longer}
use Rattle.lab_engine.specs.Output.{batch_text, with_marks, part_text, with_newline}

abbrev texts : List (Option PartOutcome) → List ℕ
texts outcomes = with_marks (map part_text outcomes)

texts-append : (xs ys : List (Option PartOutcome)) → texts (xs ++ ys) ≡ texts xs ++ texts ys
texts-append [] ys = refl
texts-append (x ∷ xs) ys =
    let next = codes "; " ++ part_text x in
    ap (λ v. next ++ v) (texts-append xs ys) ∙ sym (append_assoc next (texts xs) (texts ys))

-- the parts so far, and a prefix of the next
pub front_of_rest : (a b c : Option (List ℕ)) (outcomes : List (Option PartOutcome)) (i : ℕ) (d : Option PartOutcome) → i < length outcomes → Appends a b (texts (take i outcomes))
    → AppendsPrefix b c (codes "; " ++ part_text (get_or outcomes i d)) → AppendsPrefix a c (texts outcomes)
front_of_rest a b c outcomes i d inside h f =
    let next = codes "; " ++ part_text (get_or outcomes i d) in
    let after = texts (drop (i + 1) outcomes) in
    let whole : texts (take i outcomes) ++ (next ++ after) ≡ texts outcomes = ap (λ v. texts (take i outcomes) ++ v) (sym (at_drop_more texts outcomes i d inside)) ∙ sym (texts-append (take i outcomes) (drop i outcomes)) ∙ ap texts (take-append-drop i outcomes) in
    subst (AppendsPrefix a c) whole (front_behind a b c (texts (take i outcomes)) (next ++ after) h (front_longer b c next after f))

-- the line of a batch in three parts
pub line_parts : (outcomes : List (Option PartOutcome)) (count : ℕ) → 1 ≤ count → 1 ≤ length outcomes
    → with_newline (batch_text (outcome.Batched outcomes) count) ≡ part_text (slice_index_or outcomes 0 None) ++ (texts (slice_range outcomes 1 count) ++ 10 ∷ [])
line_parts outcomes zero some inside = absurd (omega arith)
line_parts [] (suc n) some inside = absurd (omega arith)
line_parts (o ∷ outcomes) (suc n) some inside =
    let less : suc n - 1 ≡ n = omega arith in
    append_assoc (part_text o) (texts (take n outcomes)) (10 ∷ []) ∙ ap (λ k. part_text o ++ (texts (take k outcomes) ++ 10 ∷ [])) (sym less)
