-- The fields of a line in an array, one more at a time.
use Rattle.std.proofs.Common.{◌≡◌, ℕ, ◌+◌, ◌<◌, ◌≤◌, List, [], ◌∷◌, ◌++◌, length, take, set, sym, ap, ◌∙◌, arith, append_assoc, append-nil, take_all, length-take}
use Rattle.std.proofs.lemmas.List.{take_more_set, map-append, length-map}
use Rattle.std.specs.Borrow.{Bor}
use Rattle.lab_text.specs.FieldsAfter.{texts}

abbrev text : Bor (List ℕ) → List ℕ
text field = field.now

pub one_more : (xs : List (Bor (List ℕ))) (n : ℕ) (field : Bor (List ℕ)) (left all : List (List ℕ)) → n < length xs → texts (take n xs) ++ (field.now ∷ left) ≡ all
    → texts (take (n + 1) (set xs n field)) ++ left ≡ all
one_more xs n field left all low so_far =
    ap (λ ys. texts ys ++ left) (take_more_set xs n field low)
    ∙ ap (λ ys. ys ++ left) (map-append text (take n xs) (field ∷ []))
    ∙ append_assoc (texts (take n xs)) (field.now ∷ []) left
    ∙ so_far

-- none is left
pub all_split : (xs : List (Bor (List ℕ))) (n : ℕ) (left all : List (List ℕ)) → n ≤ 5 → left ≡ [] → texts (take n xs) ++ left ≡ all → texts (take n xs) ≡ take 5 all
all_split xs n left all few none so_far =
    let whole : texts (take n xs) ≡ all = sym (ap (λ rest. texts (take n xs) ++ rest) none ∙ append-nil (texts (take n xs))) ∙ so_far in
    let size : length all ≤ 5 = omega (arith, ap length whole, length-map (take n xs) text, length-take n xs) in
    whole ∙ sym (take_all 5 all size)
