-- Distinct codes, of a whole list and of a list that is read after a set of codes.
use Rattle.std.proofs.Common.{◌≡◌, ℕ, Bool, true, false, cond, ◌||◌, eqb, List, [], ◌∷◌, Option, Some, None, refl, sym, ap, ◌∙◌}
use Rattle.std.proofs.lemmas.Bool.{eqb-true, eq-eqb}
use Rattle.std.proofs.Math.Bool.{or-false}
use Rattle.std.specs.Prelude.{is_some}
use Rattle.v4_options.specs.Spelling.{look_up}
use Rattle.v4_options.specs.Reading.{no_code, with_code}
use Rattle.v4_options.specs.Suboptions.{AreDistinct}

-- No code is in the set, and none appears twice.
abbrev pub AreNew : (ℕ → Bool) → List (ℕ × List ℕ) → Type 0
AreNew seen [] = Unit {0}
AreNew seen (o ∷ os) = (seen o.0 ≡ false) × AreNew (with_code o.0 seen) os

-- The set with the codes of a list.
abbrev pub after : (ℕ → Bool) → List (ℕ × List ℕ) → ℕ → Bool
after seen [] = seen
after seen (o ∷ os) = after (with_code o.0 seen) os

eqb_self : (n : ℕ) → eqb n n ≡ true
eqb_self n = eq-eqb n n refl

-- The first option is found by its own code.
look_up_first : (code : ℕ) (v : List ℕ) (os : List (ℕ × List ℕ)) → look_up code ((code, v) ∷ os) ≡ Some v
look_up_first code v os = rw (eqb_self code) refl

-- No code of the set is in the list.
abbrev Misses : (ℕ → Bool) → List (ℕ × List ℕ) → Type 0
Misses seen os = (code : ℕ) → seen code ≡ true → look_up code os ≡ None

new_first : (s : Bool) (seen : ℕ → Bool) (o : ℕ × List ℕ) (os : List (ℕ × List ℕ)) → Misses seen (o ∷ os) → seen o.0 ≡ s → s ≡ false
new_first false seen o os misses e = refl
new_first true seen o os misses e =
    let found : look_up o.0 (o ∷ os) ≡ Some o.1 = look_up_first o.0 o.1 os in
    let missed : look_up o.0 (o ∷ os) ≡ None = misses o.0 e in
    absurd (cc (found, missed))

misses_rest : (b : Bool) (seen : ℕ → Bool) (o : ℕ × List ℕ) (os : List (ℕ × List ℕ)) (code : ℕ) → look_up o.0 os ≡ None → (seen code ≡ true → cond b (Some o.1) (look_up code os) ≡ None) → eqb o.0 code ≡ b → (b || seen code) ≡ true → look_up code os ≡ None
misses_rest true seen o os code distinct misses e h = ap (λ (c : ℕ). look_up c os) (sym (eqb-true o.0 code e)) ∙ distinct
misses_rest false seen o os code distinct misses e h = misses h

new_from_distinct : (seen : ℕ → Bool) (os : List (ℕ × List ℕ)) → AreDistinct os → Misses seen os → AreNew seen os
new_from_distinct seen [] h misses = tt
new_from_distinct seen (o ∷ os) h misses =
    (new_first (seen o.0) seen o os misses refl, new_from_distinct (with_code o.0 seen) os h.1 (λ code e. misses_rest (eqb o.0 code) seen o os code h.0 (misses code) refl e))

misses_all : (b : Bool) (seen : ℕ → Bool) (o : ℕ × List ℕ) (os : List (ℕ × List ℕ)) (code : ℕ) → seen o.0 ≡ false → ((b || seen code) ≡ true → look_up code os ≡ None) → eqb o.0 code ≡ b → seen code ≡ true → cond b (Some o.1) (look_up code os) ≡ None
misses_all true seen o os code new misses e h = absurd (cc (ap seen (eqb-true o.0 code e)))
misses_all false seen o os code new misses e h = misses h

distinct_from_new : (seen : ℕ → Bool) (os : List (ℕ × List ℕ)) → AreNew seen os → AreDistinct os × Misses seen os
distinct_from_new seen [] h = (tt, λ code e. refl)
distinct_from_new seen (o ∷ os) h =
    let r = distinct_from_new (with_code o.0 seen) os h.1 in
    ((r.1 o.0 (rw (eqb_self o.0) refl), r.0), λ code e. misses_all (eqb o.0 code) seen o os code h.0 (r.1 code) refl e)

-- After the empty set, new codes are distinct codes.
pub distinct-new : (os : List (ℕ × List ℕ)) → AreDistinct os → AreNew no_code os
distinct-new os h = new_from_distinct no_code os h (λ code e. absurd cc)

pub new-distinct : (os : List (ℕ × List ℕ)) → AreNew no_code os → AreDistinct os
new-distinct os h = (distinct_from_new no_code os h).0

after_step : (b s : Bool) (v : List ℕ) (found : Option (List ℕ)) → ((b || s) || is_some found) ≡ (s || is_some (cond b (Some v) found))
after_step true false v found = refl
after_step true true v found = refl
after_step false s v found = refl

-- That set has the codes of the list and those that it had before.
pub after_is : (seen : ℕ → Bool) (os : List (ℕ × List ℕ)) (code : ℕ) → after seen os code ≡ (seen code || is_some (look_up code os))
after_is seen [] code = sym (or-false (seen code))
after_is seen (o ∷ os) code = after_is (with_code o.0 seen) os code ∙ after_step (eqb o.0 code) (seen code) o.1 (look_up code os)
