-- Lists without an option, and with one more.
use Rattle.std.proofs.Common.{◌≡◌, ◌≢◌, ℕ, Bool, true, false, cond, eqb, List, [], ◌∷◌, ◌++◌, Option, Some, None, refl, sym, ap, ◌∙◌, append_assoc}
use Rattle.std.proofs.lemmas.Bool.{eqb-true, eqb-false, ne_eqb, eq-eqb}
use Rattle.v4_options.specs.Codes.{PAD, END}
use Rattle.v4_options.specs.Spelling.{spelling, option, look_up, without, AreOptions}

gone_step : (b : Bool) (code : ℕ) (o : ℕ × List ℕ) (os : List (ℕ × List ℕ)) → eqb o.0 code ≡ b → look_up code os ≡ None → look_up code (cond b os (o ∷ os)) ≡ None
gone_step true code o os e h = h
gone_step false code o os e h = rw e h

pub look_up-without : (code : ℕ) (os : List (ℕ × List ℕ)) → look_up code (without code os) ≡ None
look_up-without code [] = refl
look_up-without code (o ∷ os) = gone_step (eqb o.0 code) code o (without code os) refl (look_up-without code os)

other_step : (b : Bool) (code other : ℕ) (o : ℕ × List ℕ) (os rest : List (ℕ × List ℕ)) → other ≢ code → eqb o.0 code ≡ b → look_up other os ≡ look_up other rest → look_up other (cond b os (o ∷ os)) ≡ look_up other (o ∷ rest)
other_step true code other o os rest ne e h =
    let differs : eqb o.0 other ≡ false = ne_eqb o.0 other (λ same. ne (sym same ∙ eqb-true o.0 code e)) in
    rw differs h
other_step false code other o os rest ne e h = ap (λ (found : Option (List ℕ)). cond (eqb o.0 other) (Some o.1) found) h

pub look_up-without_other : (code other : ℕ) (os : List (ℕ × List ℕ)) → other ≢ code → look_up other (without code os) ≡ look_up other os
look_up-without_other code other [] ne = refl
look_up-without_other code other (o ∷ os) ne = other_step (eqb o.0 code) code other o (without code os) os ne refl (look_up-without_other code other os ne)

distinct_step : (b : Bool) (code : ℕ) (o : ℕ × List ℕ) (os : List (ℕ × List ℕ)) → eqb o.0 code ≡ b → AreOptions (o ∷ os) → AreOptions (without code os) → AreOptions (cond b (without code os) (o ∷ without code os))
distinct_step true code o os e h r = r
distinct_step false code o os e h r = (h.0, h.1, look_up-without_other code o.0 os (eqb-false o.0 code e) ∙ h.2, r)

pub AreOptions-without : (code : ℕ) (os : List (ℕ × List ℕ)) → AreOptions os → AreOptions (without code os)
AreOptions-without code [] h = tt
AreOptions-without code (o ∷ os) h = distinct_step (eqb o.0 code) code o os refl h (AreOptions-without code os h.3)

pub spelling-append : (a b : List (ℕ × List ℕ)) → spelling (a ++ b) ≡ spelling a ++ spelling b
spelling-append [] b = refl
spelling-append (o ∷ os) b =
    ap (λ (t : List ℕ). option o.0 o.1 ++ t) (spelling-append os b) ∙ sym (append_assoc (option o.0 o.1) (spelling os) (spelling b))

found_step : (b : Bool) (v w : List ℕ) (found behind : Option (List ℕ)) → (found ≡ None → behind ≡ Some w) → cond b (Some v) found ≡ None → cond b (Some v) behind ≡ Some w
found_step true v w found behind h e = absurd cc
found_step false v w found behind h e = h e

pub look_up-append_same : (os : List (ℕ × List ℕ)) (code : ℕ) (v : List ℕ) → look_up code os ≡ None → look_up code (os ++ (code, v) ∷ []) ≡ Some v
look_up-append_same [] code v h = rw (eq-eqb code code refl) refl
look_up-append_same (o ∷ os) code v h = found_step (eqb o.0 code) o.1 v (look_up code os) (look_up code (os ++ (code, v) ∷ [])) (look_up-append_same os code v) h

pub look_up-append_other : (os : List (ℕ × List ℕ)) (code other : ℕ) (v : List ℕ) → other ≢ code → look_up other (os ++ (code, v) ∷ []) ≡ look_up other os
look_up-append_other [] code other v ne = rw (ne_eqb code other (λ e. ne (sym e))) refl
look_up-append_other (o ∷ os) code other v ne = ap (λ (found : Option (List ℕ)). cond (eqb o.0 other) (Some o.1) found) (look_up-append_other os code other v ne)

missing_first : (b : Bool) (o : ℕ × List ℕ) (os : List (ℕ × List ℕ)) (code : ℕ) → eqb o.0 code ≡ b → cond b (Some o.1) (look_up code os) ≡ None → (o.0 ≢ code) × (look_up code os ≡ None)
missing_first true o os code e h = absurd cc
missing_first false o os code e h = (eqb-false o.0 code e, h)

pub AreOptions-append : (os : List (ℕ × List ℕ)) (code : ℕ) (v : List ℕ) → code ≢ PAD → code ≢ END → look_up code os ≡ None → AreOptions os → AreOptions (os ++ (code, v) ∷ [])
AreOptions-append [] code v no_pad no_end new h = (no_pad, no_end, refl, tt)
AreOptions-append (o ∷ os) code v no_pad no_end new h =
    let m = missing_first (eqb o.0 code) o os code refl new in
    (h.0, h.1, look_up-append_other os code o.0 v m.0 ∙ h.2, AreOptions-append os code v no_pad no_end m.1 h.3)
