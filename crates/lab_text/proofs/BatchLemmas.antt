-- The parts of a batch, one more at a time.
use Rattle.std.proofs.Common.{◌≡◌, ℕ, zero, suc, ◌+◌, ◌<◌, ◌≤◌, Bool, true, false, cond, List, [], ◌∷◌, ◌++◌, length, refl, ap, sym, subst, ◌∙◌, arith, append_assoc, append-nil, length-append}
use Rattle.std.specs.Prelude.{Option, Some, None, option_map, nat_le, ◌&&◌}
use Rattle.std.proofs.lemmas.Option.{same_Some}
use Rattle.settings.specs.Settings.{Settings}
use Rattle.events.specs.Batch.{is_batch, are_apart}
use Rattle.events.specs.declared.batch.BatchPart.{BatchPart}
use Rattle.lab_text.specs.Fields.{◌>>=◌, batch_part, each_part, parts_of}
use Rattle.lab_text.specs.ParsedLine.{AreKnown}

-- these parts, and then more
abbrev after : List BatchPart → Option (List BatchPart) → Option (List BatchPart)
after parts more = option_map (λ rest. parts ++ rest) more

-- where these are the parts of a batch
abbrev checked : List BatchPart → Option (List BatchPart)
checked parts = cond (is_batch parts) (Some parts) None

-- what the fields so far spell, and what is left of them
pub record PartsSoFar (settings : Settings) (all left : List (List ℕ)) (parts : List BatchPart) : Type 0 where
  pub spelled : after parts (each_part settings left) ≡ each_part settings all
  pub known : AreKnown settings parts

one_field : (settings : Settings) (field : List ℕ) (left : List (List ℕ)) → each_part settings (field ∷ left) ≡ (batch_part settings field >>= (λ part. each_part settings left >>= (λ parts. Some (part ∷ parts))))
unfolding each_part
one_field settings field left = refl

no_field : (settings : Settings) → each_part settings [] ≡ Some []
unfolding each_part
no_field settings = refl

-- a field spells no part
pub spells_none : (settings : Settings) (all left : List (List ℕ)) (field : List ℕ) (parts : List BatchPart) → None ≡ batch_part settings field → PartsSoFar settings all (field ∷ left) parts
    → None ≡ parts_of settings all
spells_none settings all left field parts none h =
    let no_more = one_field settings field left ∙ ap (λ o. o >>= (λ part. each_part settings left >>= (λ parts. Some (part ∷ parts)))) (sym none) in
    ap (λ o. o >>= checked) (sym (sym h.spelled ∙ ap (after parts) no_more))

spelled_one : (settings : Settings) (field : List ℕ) (left : List (List ℕ)) (part : BatchPart) → Some part ≡ batch_part settings field
    → each_part settings (field ∷ left) ≡ (each_part settings left >>= (λ parts. Some (part ∷ parts)))
spelled_one settings field left part is =
    one_field settings field left ∙ ap (λ o. o >>= (λ part. each_part settings left >>= (λ parts. Some (part ∷ parts)))) (sym is)

not_checked : (some few apart : Bool) (parts : Option (List BatchPart)) → few ≡ false → cond (some && few && apart) parts None ≡ None
not_checked true few apart parts h = ap (λ t. cond (t && apart) parts None) h
not_checked false few apart parts h = refl

too_many : (parts : List BatchPart) (part : BatchPart) (more : List BatchPart) → 16 ≤ length parts → checked (parts ++ part ∷ more) ≡ None
too_many parts part more many =
    let size : length (parts ++ part ∷ more) ≡ length parts + (length more + 1) = length-append parts (part ∷ more) ∙ omega arith in
    let long : nat_le (length (parts ++ part ∷ more)) 16 ≡ false = grind arith in
    not_checked (nat_le 1 (length (parts ++ part ∷ more))) (nat_le (length (parts ++ part ∷ more)) 16) (are_apart (parts ++ part ∷ more)) (Some (parts ++ part ∷ more)) long

full_before : (parts : List BatchPart) (part : BatchPart) (more : Option (List BatchPart)) → 16 ≤ length parts → (after parts (more >>= (λ rest. Some (part ∷ rest))) >>= checked) ≡ None
full_before parts part None many = refl
full_before parts part (Some more) many = too_many parts part more many

-- a field spells a part more than there may be
pub spells_more : (settings : Settings) (all left : List (List ℕ)) (field : List ℕ) (part : BatchPart) (parts : List BatchPart) → Some part ≡ batch_part settings field → 16 ≤ length parts
    → PartsSoFar settings all (field ∷ left) parts → None ≡ parts_of settings all
spells_more settings all left field part parts is many h =
    sym (ap (λ o. o >>= checked) (sym h.spelled ∙ ap (after parts) (spelled_one settings field left part is)) ∙ full_before parts part (each_part settings left) many)

after_one : (parts : List BatchPart) (part : BatchPart) (more : Option (List BatchPart)) → after (parts ++ part ∷ []) more ≡ after parts (more >>= (λ rest. Some (part ∷ rest)))
after_one parts part None = refl
after_one parts part (Some more) = ap Some (append_assoc parts (part ∷ []) more)

known_more : (settings : Settings) (parts : List BatchPart) (part : BatchPart) → part.circuit < length settings.circuits → AreKnown settings parts → AreKnown settings (parts ++ part ∷ [])
known_more settings [] part known h zero p is = subst (λ (q : BatchPart). q.circuit < length settings.circuits) (same_Some _ _ is) known
known_more settings [] part known h (suc i) p is = absurd (cc)
known_more settings (q ∷ parts) part known h zero p is = h zero p is
known_more settings (q ∷ parts) part known h (suc i) p is = known_more settings parts part known (λ k r there. h (suc k) r there) i p is

-- a field spells a part
pub spells_part : (settings : Settings) (all left : List (List ℕ)) (field : List ℕ) (part : BatchPart) (parts : List BatchPart) → Some part ≡ batch_part settings field → part.circuit < length settings.circuits
    → PartsSoFar settings all (field ∷ left) parts → PartsSoFar settings all left (parts ++ part ∷ [])
spells_part settings all left field part parts is known h = record {
  spelled = after_one parts part (each_part settings left) ∙ ap (after parts) (sym (spelled_one settings field left part is)) ∙ h.spelled;
  known = known_more settings parts part known h.known;
}

-- no field is left
pub all_spelled : (settings : Settings) (all left : List (List ℕ)) (parts : List BatchPart) (good : Bool) → left ≡ [] → good ≡ is_batch parts → PartsSoFar settings all left parts
    → cond good (Some parts) None ≡ parts_of settings all
all_spelled settings all left parts good none is h =
    let whole : Some parts ≡ each_part settings all = sym (ap Some (append-nil parts)) ∙ ap (after parts) (sym (ap (each_part settings) none ∙ no_field settings)) ∙ h.spelled in
    ap (λ t. cond t (Some parts) None) is ∙ ap (λ o. o >>= checked) whole
