-- The parts of a batch, and those of them that wait for the server, by their circuits.
use Rattle.std.proofs.Common.{◌≡◌, ℕ, zero, suc, Bool, true, false, List, [], ◌∷◌, take, refl, sym, ap, subst, ◌∙◌, eq-eqb, ne_eqb}
use Rattle.std.specs.Prelude.{◌==◌, ◌&&◌, ◌||◌, if◌then◌else◌, not, Option, Some, None, Result, slice_get}
use Rattle.std.specs.List.{cons_option, filter_map, list_any}
use Rattle.std.proofs.lemmas.Bool.{eqb-true, eqb-false}
use Rattle.std.proofs.lemmas.Option.{same_Some}
use Rattle.types.specs.declared.discard.Discard.{Discard}
use Rattle.events.specs.Batch.{are_apart, is_named, outcome_of, part_of}
use Rattle.events.specs.declared.batch.BatchPart.{BatchPart}
use Rattle.events.specs.declared.batch.PartOutcome.{PartOutcome}
use Rattle.events.specs.declared.batch.PartOutcome.TheVariants as part
use Rattle.lossy_net.specs.Net.{Datagram}
use Rattle.world.specs.Batch.{answer_outcome, downs_after, outcome_for, with_answer}
use Rattle.world.specs.declared.world.batch.Waiting.{Waiting}

-- ---- truth values

pub neither : (a b : Bool) → (a || b) ≡ false → (a ≡ false) × (b ≡ false)
neither false b h = (refl, h)
neither true b h = absurd cc

both : (a b : Bool) → (not a && b) ≡ true → (a ≡ false) × (b ≡ true)
both false b h = (refl, h)
both true b h = absurd cc

pub truth : (b : Bool) → b ≡ true → b ≡ false → ⊥
truth true h k = absurd cc
truth false h k = absurd cc

pub apart_back : (a b : ℕ) → (a == b) ≡ false → (b == a) ≡ false
apart_back a b h = ne_eqb b a (λ same. eqb-false a b h (sym same))

-- ---- which circuits wait

abbrev pub is_waiting : ℕ → List Waiting → Bool
is_waiting c ws = list_any (λ (w : Waiting). w.circuit == c) ws

-- no two of them are of one circuit
abbrev pub AreApart : List Waiting → Type 0
AreApart [] = Unit {0}
AreApart (w ∷ ws) = (is_waiting w.circuit ws ≡ false) × AreApart ws

-- one of these is not of a circuit of which none waits
pub elsewhere_waits : (ws : List Waiting) (c j : ℕ) (w : Waiting) → is_waiting c ws ≡ false → slice_get ws j ≡ Some w → (w.circuit == c) ≡ false
elsewhere_waits [] c j w none at = absurd cc
elsewhere_waits (x ∷ ws) c zero w none at = subst (λ (y : Waiting). (y.circuit == c) ≡ false) (same_Some x w at) (neither (x.circuit == c) (is_waiting c ws) none).0
elsewhere_waits (x ∷ ws) c (suc j) w none at = elsewhere_waits ws c j w (neither (x.circuit == c) (is_waiting c ws) none).1 at

pub first_of_its : (ws : List Waiting) (j : ℕ) (w : Waiting) → AreApart ws → slice_get ws j ≡ Some w → is_waiting w.circuit (take j ws) ≡ false
first_of_its [] j w apart at = absurd cc
first_of_its (x ∷ ws) zero w apart at = refl
first_of_its (x ∷ ws) (suc j) w apart at =
    (λ i. apart_back w.circuit x.circuit (elsewhere_waits ws x.circuit j w apart.0 at) i || is_waiting w.circuit (take j ws)) ∙ first_of_its ws j w apart.1 at

pub same_waiting : (ws : List Waiting) (i j : ℕ) (v w : Waiting) → AreApart ws → slice_get ws i ≡ Some v → slice_get ws j ≡ Some w → v.circuit ≡ w.circuit → v ≡ w
same_waiting [] i j v w apart at_i at_j same = absurd cc
same_waiting (x ∷ ws) zero zero v w apart at_i at_j same = sym (same_Some x v at_i) ∙ same_Some x w at_j
same_waiting (x ∷ ws) zero (suc j) v w apart at_i at_j same =
    absurd (eqb-false w.circuit x.circuit (elsewhere_waits ws x.circuit j w apart.0 at_j) (sym same ∙ sym (ap (λ (y : Waiting). y.circuit) (same_Some x v at_i))))
same_waiting (x ∷ ws) (suc i) zero v w apart at_i at_j same =
    absurd (eqb-false v.circuit x.circuit (elsewhere_waits ws x.circuit i v apart.0 at_i) (same ∙ sym (ap (λ (y : Waiting). y.circuit) (same_Some x w at_j))))
same_waiting (x ∷ ws) (suc i) (suc j) v w apart at_i at_j same = same_waiting ws i j v w apart.1 at_i at_j same

pub record Waits (c : ℕ) (ws : List Waiting) : Type 0 where
  pub index : ℕ
  pub waiting : Waiting
  pub at : slice_get ws index ≡ Some waiting
  pub its : waiting.circuit ≡ c

pub one_waits : (c : ℕ) (ws : List Waiting) → is_waiting c ws ≡ true → Waits c ws
one_waits c [] waits = absurd cc
one_waits c (w ∷ ws) waits = by (w.circuit == c) refl (λ h. let r = one_waits c ws h in record { index = suc r.index; waiting = r.waiting; at = r.at; its = r.its }) waits where
  by : (b : Bool) → (w.circuit == c) ≡ b → (is_waiting c ws ≡ true → Waits c (w ∷ ws)) → (b || is_waiting c ws) ≡ true → Waits c (w ∷ ws)
  by true same rest h = record { index = 0; waiting = w; at = refl; its = eqb-true w.circuit c same }
  by false other rest h = rest h

-- ---- what comes of one circuit's

pub gone_outcome : (c : ℕ) (ws : List Waiting) (answers : List (Result (List ℕ) Discard)) → is_waiting c ws ≡ false → outcome_for c ws answers ≡ part.Gone
gone_outcome c [] answers none = refl
gone_outcome c (w ∷ ws) [] none = refl
gone_outcome c (w ∷ ws) (a ∷ answers) none =
    let apart = neither (w.circuit == c) (is_waiting c ws) none in
    ap (λ b. if b then answer_outcome (Some a) else outcome_for c ws answers) apart.0 ∙ gone_outcome c ws answers apart.1

pub same_downs : (quota c : ℕ) (ws : List Waiting) (answers : List (Result (List ℕ) Discard)) (downs : List Datagram) → is_waiting c ws ≡ false → downs_after quota ws answers c downs ≡ downs
same_downs quota c [] answers downs none = refl
same_downs quota c (w ∷ ws) [] downs none = refl
same_downs quota c (w ∷ ws) (a ∷ answers) downs none =
    let apart = neither (w.circuit == c) (is_waiting c ws) none in
    same_downs quota c ws answers _ apart.1 ∙ ap (λ b. if b then with_answer quota w.proto (Some a) downs else downs) apart.0

pub its_outcome : (ws : List Waiting) (answers : List (Result (List ℕ) Discard)) (j : ℕ) (w : Waiting) (a : Result (List ℕ) Discard) → AreApart ws → slice_get ws j ≡ Some w → slice_get answers j ≡ Some a
    → outcome_for w.circuit ws answers ≡ answer_outcome (Some a)
its_outcome [] answers j w a apart at given = absurd cc
its_outcome (x ∷ ws) [] j w a apart at given = absurd cc
its_outcome (x ∷ ws) (b ∷ answers) zero w a apart at given =
    let same = same_Some x w at in
    ap (λ t. if t then answer_outcome (Some b) else outcome_for w.circuit ws answers) (eq-eqb x.circuit w.circuit (ap (λ (y : Waiting). y.circuit) same)) ∙ ap answer_outcome given
its_outcome (x ∷ ws) (b ∷ answers) (suc j) w a apart at given =
    ap (λ t. if t then answer_outcome (Some b) else outcome_for w.circuit ws answers) (apart_back w.circuit x.circuit (elsewhere_waits ws x.circuit j w apart.0 at))
    ∙ its_outcome ws answers j w a apart.1 at given

pub its_downs : (quota : ℕ) (ws : List Waiting) (answers : List (Result (List ℕ) Discard)) (j : ℕ) (w : Waiting) (a : Result (List ℕ) Discard) (downs : List Datagram) → AreApart ws
    → slice_get ws j ≡ Some w → slice_get answers j ≡ Some a → downs_after quota ws answers w.circuit downs ≡ with_answer quota w.proto (Some a) downs
its_downs quota [] answers j w a downs apart at given = absurd cc
its_downs quota (x ∷ ws) [] j w a downs apart at given = absurd cc
its_downs quota (x ∷ ws) (b ∷ answers) zero w a downs apart at given =
    let same = same_Some x w at in
    let none = subst (λ (y : Waiting). is_waiting y.circuit ws ≡ false) same apart.0 in
    same_downs quota w.circuit ws answers _ none
    ∙ ap (λ t. if t then with_answer quota x.proto (Some b) downs else downs) (eq-eqb x.circuit w.circuit (ap (λ (y : Waiting). y.circuit) same))
    ∙ (λ i. with_answer quota (same i).proto (given i) downs)
its_downs quota (x ∷ ws) (b ∷ answers) (suc j) w a downs apart at given =
    ap (downs_after quota ws answers w.circuit) (ap (λ t. if t then with_answer quota x.proto (Some b) downs else downs) (apart_back w.circuit x.circuit (elsewhere_waits ws x.circuit j w apart.0 at)))
    ∙ its_downs quota ws answers j w a downs apart.1 at given

-- ---- which parts wait

module _ (f : BatchPart → Option Waiting) (keeps : (p : BatchPart) (w : Waiting) → f p ≡ Some w → w.circuit ≡ p.circuit) where
  more_waiting : (c : ℕ) (p : BatchPart) (slot : Option Waiting) (ws : List Waiting) → f p ≡ slot → (p.circuit == c) ≡ false → is_waiting c ws ≡ false → is_waiting c (cons_option slot ws) ≡ false
  more_waiting c p None ws is other none = none
  more_waiting c p (Some w) ws is other none = (λ i. (keeps p w is i == c) || is_waiting c ws) ∙ (λ i. other i || is_waiting c ws) ∙ none

  pub unnamed_waits : (c : ℕ) (ps : List BatchPart) → is_named c ps ≡ false → is_waiting c (filter_map f ps) ≡ false
  unnamed_waits c [] none = refl
  unnamed_waits c (p ∷ ps) none =
      let apart = neither (p.circuit == c) (is_named c ps) none in
      more_waiting c p (f p) (filter_map f ps) refl apart.0 (unnamed_waits c ps apart.1)

  apart_with : (p : BatchPart) (slot : Option Waiting) (ws : List Waiting) → f p ≡ slot → is_waiting p.circuit ws ≡ false → AreApart ws → AreApart (cons_option slot ws)
  apart_with p None ws is none apart = apart
  apart_with p (Some w) ws is none apart = (subst (λ c. is_waiting c ws ≡ false) (sym (keeps p w is)) none, apart)

  pub waits_apart : (ps : List BatchPart) → are_apart ps ≡ true → AreApart (filter_map f ps)
  waits_apart [] apart = tt
  waits_apart (p ∷ ps) apart =
      let h = both (is_named p.circuit ps) (are_apart ps) apart in
      apart_with p (f p) (filter_map f ps) refl (unnamed_waits p.circuit ps h.0) (waits_apart ps h.1)

  -- a circuit without a part is not named
  pub no_part : (c : ℕ) (ps : List BatchPart) → part_of c ps ≡ None → is_named c ps ≡ false
  no_part c [] none = refl
  no_part c (p ∷ ps) none = by (p.circuit == c) (no_part c ps) none where
    by : (b : Bool) → (part_of c ps ≡ None → is_named c ps ≡ false) → (if b then Some p else part_of c ps) ≡ None → (b || is_named c ps) ≡ false
    by true rest h = absurd cc
    by false rest h = rest h

  -- the place of a circuit's part among those that wait
  pub record Place (ws : List Waiting) (w : Waiting) : Type 0 where
    pub index : ℕ
    pub at : slice_get ws index ≡ Some w

  further : (slot : Option Waiting) (ws : List Waiting) (w : Waiting) → Place ws w → Place (cons_option slot ws) w
  further None ws w place = place
  further (Some x) ws w place = record { index = suc place.index; at = place.at }

  pub its_place : (c : ℕ) (ps : List BatchPart) (p : BatchPart) (w : Waiting) → part_of c ps ≡ Some p → f p ≡ Some w → Place (filter_map f ps) w
  its_place c [] p w its waits = absurd cc
  its_place c (q ∷ ps) p w its waits = by (q.circuit == c) (λ h. its_place c ps p w h waits) its where
    by : (b : Bool) → (part_of c ps ≡ Some p → Place (filter_map f ps) w) → (if b then Some q else part_of c ps) ≡ Some p → Place (filter_map f (q ∷ ps)) w
    by true rest h =
        let is : f q ≡ Some w = ap f (same_Some q p h) ∙ waits in
        subst (λ slot. Place (cons_option slot (filter_map f ps)) w) (sym is) (record { index = 0; at = refl })
    by false rest h = further (f q) (filter_map f ps) w (rest h)

  -- a part that does not wait
  pub none_waits : (c : ℕ) (ps : List BatchPart) (p : BatchPart) → are_apart ps ≡ true → part_of c ps ≡ Some p → f p ≡ None → is_waiting c (filter_map f ps) ≡ false
  none_waits c [] p apart its none = absurd cc
  none_waits c (q ∷ ps) p apart its none = by (q.circuit == c) refl (λ its. none_waits c ps p h.1 its none) its where
    h : (is_named q.circuit ps ≡ false) × (are_apart ps ≡ true)
    h = both (is_named q.circuit ps) (are_apart ps) apart

    by : (b : Bool) → (q.circuit == c) ≡ b → (part_of c ps ≡ Some p → is_waiting c (filter_map f ps) ≡ false) → (if b then Some q else part_of c ps) ≡ Some p
        → is_waiting c (filter_map f (q ∷ ps)) ≡ false
    by true same rest its =
        let is : f q ≡ None = ap f (same_Some q p its) ∙ none in
        subst (λ slot. is_waiting c (cons_option slot (filter_map f ps)) ≡ false) (sym is)
        (unnamed_waits c ps (subst (λ n. is_named n ps ≡ false) (eqb-true q.circuit c same) h.0))
    by false other rest its = more_waiting c q (f q) (filter_map f ps) refl other (rest its)

  -- each of those that wait is of a part
  pub record FromPart (ps : List BatchPart) (w : Waiting) : Type 0 where
    pub part : BatchPart
    pub index : ℕ
    pub at : slice_get ps index ≡ Some part
    pub waits : f part ≡ Some w

  pub from_part : (ps : List BatchPart) (j : ℕ) (w : Waiting) → slice_get (filter_map f ps) j ≡ Some w → FromPart ps w
  from_part [] j w at = absurd cc
  from_part (p ∷ ps) j w at = by (f p) refl (λ j at. let r = from_part ps j w at in record { part = r.part; index = suc r.index; at = r.at; waits = r.waits }) j at where
    by : (slot : Option Waiting) → f p ≡ slot → ((j : ℕ) → slice_get (filter_map f ps) j ≡ Some w → FromPart (p ∷ ps) w) → (j : ℕ) → slice_get (cons_option slot (filter_map f ps)) j ≡ Some w → FromPart (p ∷ ps) w
    by None is rest j at = rest j at
    by (Some x) is rest zero at = record { part = p; index = 0; at = refl; waits = is ∙ at }
    by (Some x) is rest (suc j) at = rest j at

-- the part of circuit c is of circuit c
pub of_its_circuit : (c : ℕ) (ps : List BatchPart) (p : BatchPart) → part_of c ps ≡ Some p → p.circuit ≡ c
of_its_circuit c [] p its = absurd cc
of_its_circuit c (q ∷ ps) p its = by (q.circuit == c) refl (of_its_circuit c ps p) its where
  by : (b : Bool) → (q.circuit == c) ≡ b → (part_of c ps ≡ Some p → p.circuit ≡ c) → (if b then Some q else part_of c ps) ≡ Some p → p.circuit ≡ c
  by true same rest h = ap (λ (r : BatchPart). r.circuit) (sym (same_Some q p h)) ∙ eqb-true q.circuit c same
  by false other rest h = rest h

-- a circuit that is named has a part
pub has_part : (c : ℕ) (ps : List BatchPart) → is_named c ps ≡ true → (p : BatchPart) × (part_of c ps ≡ Some p)
has_part c [] named = absurd cc
has_part c (q ∷ ps) named = by (q.circuit == c) (has_part c ps) named where
  by : (b : Bool) → (is_named c ps ≡ true → (p : BatchPart) × (part_of c ps ≡ Some p)) → (b || is_named c ps) ≡ true → (p : BatchPart) × ((if b then Some q else part_of c ps) ≡ Some p)
  by true rest h = (q, refl)
  by false rest h = rest h

-- what the outcomes have of it
pub outcome_is : (c : ℕ) (ps : List BatchPart) (outcomes : List (Option PartOutcome)) (g : BatchPart → PartOutcome) (p : BatchPart) → part_of c ps ≡ Some p
    → ((i : ℕ) (q : BatchPart) → slice_get ps i ≡ Some q → slice_get outcomes i ≡ Some (Some (g q))) → outcome_of c ps outcomes ≡ Some (g p)
outcome_is c [] outcomes g p its each = absurd cc
outcome_is c (q ∷ ps) [] g p its each = let h : None ≡ Some (Some (g q)) = each 0 q refl in absurd cc
outcome_is c (q ∷ ps) (o ∷ outcomes) g p its each = by (q.circuit == c) (λ h. outcome_is c ps outcomes g p h (λ i r at. each (suc i) r at)) its where
  by : (b : Bool) → (part_of c ps ≡ Some p → outcome_of c ps outcomes ≡ Some (g p)) → (if b then Some q else part_of c ps) ≡ Some p → (if b then o else outcome_of c ps outcomes) ≡ Some (g p)
  by true rest h = same_Some o (Some (g q)) (each 0 q refl) ∙ ap (λ r. Some (g r)) (same_Some q p h)
  by false rest h = rest h
