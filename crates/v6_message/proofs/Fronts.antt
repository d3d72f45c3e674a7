-- The first fault of a list, and the longest allowed front.
use Rattle.std.proofs.Common.{◌≡◌, ℕ, ◌+◌, ◌≤◌, ◌⊎◌, inl, inr, Bool, true, false, ◌&&◌, ◌||◌, cond, eqb, List, [], ◌∷◌, ◌++◌, Option, Some, None, refl, ap, ◌∙◌, arith}
use Rattle.std.specs.Bool.{Decides}
use Rattle.std.proofs.lemmas.Bool.{eqb-true, eqb-false}
use Rattle.v6_message.specs.declared.scan.Sender.{Sender}
use Rattle.v6_message.specs.declared.scan.Sender.TheVariants.{Client, Relay}
use Rattle.v6_message.specs.declared.scan.ListFault.{ListFault}
use Rattle.v6_message.specs.declared.scan.ListFault.TheVariants.{Cut, Twice}
use Rattle.v6_message.specs.Lists.{count, first_code, second_code, IsFormed, AreFormed}
use Rattle.v6_message.specs.Reading.{is_formed, is_again, fault_of}

-- ---- flags

abbrev pub weight : Bool → ℕ
weight true = 1
weight false = 0

light : (a : Bool) → weight a + 0 ≤ 1
light true = omega arith
light false = omega arith

moved : (a e : Bool) (n : ℕ) → (a && e) ≡ false → weight (a || e) + n ≡ weight a + cond e (1 + n) n
moved true true n h = absurd cc
moved true false n h = omega arith
moved false true n h = omega arith
moved false false n h = omega arith

once : (a e : Bool) (n : ℕ) → weight a + cond e (1 + n) n ≤ 1 → (a && e) ≡ false
once true true n h = absurd (omega (arith, h))
once true false n h = refl
once false e n h = refl

set : (a : Bool) → 1 ≤ weight a + 0 → a ≡ true
set true h = refl
set false h = absurd (omega (arith, h))

no_left : (x y : Bool) → (x || y) ≡ false → x ≡ false
no_left true y h = absurd cc
no_left false y h = refl

no_right : (x y : Bool) → (x || y) ≡ false → y ≡ false
no_right true y h = absurd cc
no_right false y h = h

one_of : (x y : Bool) → (x || y) ≡ true → (x ≡ true) ⊎ (y ≡ true)
one_of true y h = inl refl
one_of false y h = inr h

both : (x y : Bool) → (x && y) ≡ true → (x ≡ true) × (y ≡ true)
both true true h = (refl, refl)
both true false h = absurd cc
both false y h = absurd cc

pub same_code : (m n : ℕ) → m ≡ n → eqb m n ≡ true
same_code m n e = by (eqb m n) refl where
  by : (b : Bool) → eqb m n ≡ b → eqb m n ≡ true
  by true h = h
  by false h = absurd (eqb-false m n h e)

or_true : (x : Bool) → (x || true) ≡ true
or_true true = refl
or_true false = refl

-- ---- whether options are formed

abbrev pub AreDecided : Sender → List (ℕ × List ℕ) → Type 0
AreDecided s [] = Unit {0}
AreDecided s (o ∷ os) = Decides (is_formed s o.0 o.1) (IsFormed s o.0 o.1) × AreDecided s os

not_formed : (b : Bool) {P : Type 0} → Decides b P → (P → ⊥) → b ≡ false
not_formed true d n = absurd (n (d.0 refl))
not_formed false d n = refl

-- The two codes are no IA_NA.
single_formed : (s : Sender) (code : ℕ) (value : List ℕ) → (code ≡ first_code s) ⊎ (code ≡ second_code s) → IsFormed s code value
single_formed Client code value (inl e) = λ is. absurd (omega (arith, e, is))
single_formed Client code value (inr e) = λ is. absurd (omega (arith, e, is))
single_formed Relay code value e = tt

-- ---- the longest allowed front

abbrev pub Ends : Sender → Bool → Bool → Bool → Option ListFault → List (ℕ × List ℕ) → List (ℕ × List ℕ) → Type 0
Ends s a b cut None front back = (cut ≡ false) × (back ≡ [])
Ends s a b cut (Some Cut) front back = ((cut ≡ true) × (back ≡ [])) ⊎ ((o : ℕ × List ℕ) × (more : List (ℕ × List ℕ)) × (back ≡ o ∷ more) × (IsFormed s o.0 o.1 → ⊥))
Ends s a b cut (Some Twice) front back =
    (o : ℕ × List ℕ) × (more : List (ℕ × List ℕ)) × (back ≡ o ∷ more) × (((o.0 ≡ first_code s) × (1 ≤ weight a + count (first_code s) front)) ⊎ ((o.0 ≡ second_code s) × (1 ≤ weight b + count (second_code s) front)))

pub record Longest (s : Sender) (a b cut : Bool) (found : Option ListFault) (list : List (ℕ × List ℕ)) : Type 0 where
  pub front : List (ℕ × List ℕ)
  pub back : List (ℕ × List ℕ)
  pub whole : list ≡ front ++ back
  pub formed : AreFormed s front
  pub first : weight a + count (first_code s) front ≤ 1
  pub second : weight b + count (second_code s) front ≤ 1
  pub ends : Ends s a b cut found front back

ends_behind : (s : Sender) (a b cut : Bool) (found : Option ListFault) (o : ℕ × List ℕ) (front back : List (ℕ × List ℕ))
    → (a && eqb o.0 (first_code s)) ≡ false → (b && eqb o.0 (second_code s)) ≡ false
    → Ends s a b cut found (o ∷ front) back → Ends s (a || eqb o.0 (first_code s)) (b || eqb o.0 (second_code s)) cut found front back
ends_behind s a b cut None o front back x y h = h
ends_behind s a b cut (Some Cut) o front back x y h = h
ends_behind s a b cut (Some Twice) o front back x y (p, more, e, inl h) = (p, more, e, inl (h.0, omega (arith, h.1, moved a (eqb o.0 (first_code s)) (count (first_code s) front) x)))
ends_behind s a b cut (Some Twice) o front back x y (p, more, e, inr h) = (p, more, e, inr (h.0, omega (arith, h.1, moved b (eqb o.0 (second_code s)) (count (second_code s) front) y)))

ends_before : (s : Sender) (a b cut : Bool) (found : Option ListFault) (o : ℕ × List ℕ) (front back : List (ℕ × List ℕ))
    → (a && eqb o.0 (first_code s)) ≡ false → (b && eqb o.0 (second_code s)) ≡ false
    → Ends s (a || eqb o.0 (first_code s)) (b || eqb o.0 (second_code s)) cut found front back → Ends s a b cut found (o ∷ front) back
ends_before s a b cut None o front back x y h = h
ends_before s a b cut (Some Cut) o front back x y h = h
ends_before s a b cut (Some Twice) o front back x y (p, more, e, inl h) = (p, more, e, inl (h.0, omega (arith, h.1, moved a (eqb o.0 (first_code s)) (count (first_code s) front) x)))
ends_before s a b cut (Some Twice) o front back x y (p, more, e, inr h) = (p, more, e, inr (h.0, omega (arith, h.1, moved b (eqb o.0 (second_code s)) (count (second_code s) front) y)))

-- The fault where the front is empty.
at_once : (s : Sender) (a b cut : Bool) (found : Option ListFault) (back : List (ℕ × List ℕ)) → AreDecided s back → Ends s a b cut found [] back → fault_of s a b cut back ≡ found
at_once s a b cut None back d h = rw (h.1, h.0) refl
at_once s a b cut (Some Cut) back d (inl h) = rw (h.1, h.0) refl
at_once s a b cut (Some Cut) back d (inr (o, more, e, n)) =
    let here : AreDecided s (o ∷ more) = rw e at d in
    ap (fault_of s a b cut) e ∙ rw (not_formed (is_formed s o.0 o.1) here.0 n) refl
at_once s a b cut (Some Twice) back d (o, more, e, inl h) =
    let here : AreDecided s (o ∷ more) = rw e at d in
    ap (fault_of s a b cut) e ∙ rw (here.0.1 (single_formed s o.0 o.1 (inl h.0)), set a h.1, same_code o.0 (first_code s) h.0) refl
at_once s a b cut (Some Twice) back d (o, more, e, inr h) =
    let here : AreDecided s (o ∷ more) = rw e at d in
    ap (fault_of s a b cut) e ∙ rw (here.0.1 (single_formed s o.0 o.1 (inr h.0)), set b h.1, same_code o.0 (second_code s) h.0, or_true (a && eqb o.0 (first_code s))) refl

pub fault_front : (s : Sender) (a b cut : Bool) (found : Option ListFault) (front back : List (ℕ × List ℕ)) → AreDecided s (front ++ back) → AreFormed s front
    → weight a + count (first_code s) front ≤ 1 → weight b + count (second_code s) front ≤ 1 → Ends s a b cut found front back → fault_of s a b cut (front ++ back) ≡ found
fault_front s a b cut found [] back d f x y h = at_once s a b cut found back d h
fault_front s a b cut found (o ∷ os) back d f x y h =
    let n = once a (eqb o.0 (first_code s)) (count (first_code s) os) x in
    let m = once b (eqb o.0 (second_code s)) (count (second_code s) os) y in
    rw (d.0.1 f.0, n, m)
    (fault_front s (a || eqb o.0 (first_code s)) (b || eqb o.0 (second_code s)) cut found os back d.1 f.1
    (omega (arith, x, moved a (eqb o.0 (first_code s)) (count (first_code s) os) n))
    (omega (arith, y, moved b (eqb o.0 (second_code s)) (count (second_code s) os) m))
    (ends_behind s a b cut found o os back n m h))

abbrev Found : Sender → Bool → Bool → Bool → List (ℕ × List ℕ) → Type 0
Found s a b cut list = (found : Option ListFault) × Longest s a b cut found list

step : (s : Sender) (a b cut : Bool) (o : ℕ × List ℕ) (os : List (ℕ × List ℕ)) (p q : Bool) → is_formed s o.0 o.1 ≡ p → is_again s a b o.0 ≡ q → Decides (is_formed s o.0 o.1) (IsFormed s o.0 o.1)
    → Found s (a || eqb o.0 (first_code s)) (b || eqb o.0 (second_code s)) cut os → Found s a b cut (o ∷ os)
step s a b cut o os false q e g d l =
    (Some Cut, record { front = []; back = o ∷ os; whole = refl; formed = tt; first = light a; second = light b; ends = inr (o, os, refl, λ f. absurd (cc (d.1 f, e))) })
step s a b cut o os true true e g d l = (Some Twice, record { front = []; back = o ∷ os; whole = refl; formed = tt; first = light a; second = light b; ends = (o, os, refl, again) })
  where
    again : ((o.0 ≡ first_code s) × (1 ≤ weight a + 0)) ⊎ ((o.0 ≡ second_code s) × (1 ≤ weight b + 0))
    again =
        elim (one_of (a && eqb o.0 (first_code s)) (b && eqb o.0 (second_code s)) g) [
          | inl h ↦ inl (eqb-true o.0 (first_code s) (both a (eqb o.0 (first_code s)) h).1, rw (both a (eqb o.0 (first_code s)) h).0 (omega arith))
          | inr h ↦ inr (eqb-true o.0 (second_code s) (both b (eqb o.0 (second_code s)) h).1, rw (both b (eqb o.0 (second_code s)) h).0 (omega arith))
        ]
step s a b cut o os true false e g d l =
    let n = no_left (a && eqb o.0 (first_code s)) (b && eqb o.0 (second_code s)) g in
    let m = no_right (a && eqb o.0 (first_code s)) (b && eqb o.0 (second_code s)) g in
    let r = l.1 in (
      l.0,
      record {
        front = o ∷ r.front;
        back = r.back;
        whole = ap (λ (t : List (ℕ × List ℕ)). o ∷ t) r.whole;
        formed = (d.0 e, r.formed);
        first = omega (arith, r.first, moved a (eqb o.0 (first_code s)) (count (first_code s) r.front) n);
        second = omega (arith, r.second, moved b (eqb o.0 (second_code s)) (count (second_code s) r.front) m);
        ends = ends_before s a b cut l.0 o r.front r.back n m r.ends;
      },
    )

pub longest : (s : Sender) (a b cut : Bool) (list : List (ℕ × List ℕ)) → AreDecided s list → Found s a b cut list
longest s a b true [] d = (Some Cut, record { front = []; back = []; whole = refl; formed = tt; first = light a; second = light b; ends = inl (refl, refl) })
longest s a b false [] d = (None, record { front = []; back = []; whole = refl; formed = tt; first = light a; second = light b; ends = (refl, refl) })
longest s a b cut (o ∷ os) d =
    step s a b cut o os (is_formed s o.0 o.1) (is_again s a b o.0) refl refl d.0 (longest s (a || eqb o.0 (first_code s)) (b || eqb o.0 (second_code s)) cut os d.1)

-- ---- lists whose options pass their test

abbrev pub AreTrue : Sender → List (ℕ × List ℕ) → Type 0
AreTrue s [] = Unit {0}
AreTrue s (o ∷ os) = (is_formed s o.0 o.1 ≡ true) × AreTrue s os

pub none_from : (s : Sender) (a b : Bool) (list : List (ℕ × List ℕ)) → AreTrue s list → weight a + count (first_code s) list ≤ 1 → weight b + count (second_code s) list ≤ 1 → fault_of s a b false list ≡ None
none_from s a b [] t x y = refl
none_from s a b (o ∷ os) t x y =
    let n = once a (eqb o.0 (first_code s)) (count (first_code s) os) x in
    let m = once b (eqb o.0 (second_code s)) (count (second_code s) os) y in
    rw (t.0, n, m)
    (none_from s (a || eqb o.0 (first_code s)) (b || eqb o.0 (second_code s)) os t.1
    (omega (arith, x, moved a (eqb o.0 (first_code s)) (count (first_code s) os) n))
    (omega (arith, y, moved b (eqb o.0 (second_code s)) (count (second_code s) os) m)))
