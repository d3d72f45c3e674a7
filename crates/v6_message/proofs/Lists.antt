-- Which lists the bytes of options spell, and which faults they have.
use Rattle.std.proofs.Common.{◌≡◌, ℕ, ◌+◌, ◌≤◌, ◌⊎◌, inl, inr, Bool, true, false, ◌||◌, cond, eqb, List, [], ◌∷◌, ◌++◌, Option, Some, None, Result, Ok, Err, refl, sym, ap, ◌∙◌, arith, append_assoc}
use Rattle.std.proofs.lemmas.List.{append-nil}
use Rattle.v6_options.specs.Spelling.{option, spelling, AreOptions, Spells, IsCut}
use Rattle.v6_options.specs.declared.fault.OptFault.{OptFault}
use Rattle.v6_options.specs.Reading.{listed, cut_from, options_of}
use Rattle.v6_options.proofs.Steps.{listed_nothing, cut_nothing, listed_whole, listed_cut, cut_cut}
use Rattle.v6_options.proofs.Exact.{listed_front, cut_front}
use Rattle.v6_options.proofs.Fronts as bytes_of
use Rattle.v6_message.specs.declared.scan.Sender.{Sender}
use Rattle.v6_message.specs.declared.scan.ListFault.{ListFault}
use Rattle.v6_message.specs.declared.scan.ListFault.TheVariants.{Cut, Twice}
use Rattle.v6_message.specs.Lists.{count, first_code, second_code, AreAllowed, BeginsWith, IsFormed, FailsList}
use Rattle.v6_message.specs.Reading.{is_formed, is_again, fault_of, first_fault}
use Rattle.v6_message.proofs.Fronts.{AreDecided, AreTrue, Longest, longest, fault_front, none_from}

abbrev none : Option ListFault
none = None

-- A list that a cut follows has a fault.
never_step : (p q : Bool) (rest : Option ListFault) → (rest ≡ none → ⊥) → cond p (cond q (Some Twice) rest) (Some Cut) ≡ none → ⊥
never_step false q rest n h = absurd cc
never_step true true rest n h = absurd cc
never_step true false rest n h = n h

pub never_none : (s : Sender) (a b : Bool) (list : List (ℕ × List ℕ)) → fault_of s a b true list ≡ none → ⊥
never_none s a b [] h = absurd cc
never_none s a b (o ∷ os) h =
    never_step (is_formed s o.0 o.1) (is_again s a b o.0) (fault_of s (a || eqb o.0 (first_code s)) (b || eqb o.0 (second_code s)) true os) (never_none s (a || eqb o.0 (first_code s)) (b || eqb o.0 (second_code s)) os) h

pub uncut : (s : Sender) (bytes : List ℕ) → first_fault s bytes ≡ none → cut_from 0 bytes ≡ false
uncut s bytes h = by (cut_from 0 bytes) refl where
  by : (b : Bool) → cut_from 0 bytes ≡ b → cut_from 0 bytes ≡ false
  by false e = e
  by true e = absurd (never_none s false false (listed bytes) (rw e at h))

abbrev err : OptFault → Result (List (ℕ × List ℕ)) OptFault
err fault = Err fault

-- What has no fault is not cut off.
pub no_err : (s : Sender) (bytes : List ℕ) (fault : OptFault) → first_fault s bytes ≡ none → err fault ≡ options_of bytes → ⊥
no_err s bytes fault h e = apart (rw (uncut s bytes h) at e) where
  apart : err fault ≡ Ok (listed bytes) → ⊥
  apart e = absurd cc

abbrev pub right : List (ℕ × List ℕ) → Result (List (ℕ × List ℕ)) OptFault
right options = Ok options

-- Options that were read without a fault are the list.
pub options_are : (s : Sender) (bytes : List ℕ) (options : List (ℕ × List ℕ)) → first_fault s bytes ≡ none → right options ≡ options_of bytes → options ≡ listed bytes
options_are s bytes options h e = by (rw (uncut s bytes h) at e) where
  by : right options ≡ right (listed bytes) → options ≡ listed bytes
  by e = cc

-- ---- lists, concatenated

pub spelling-append : (a b : List (ℕ × List ℕ)) → spelling (a ++ b) ≡ spelling a ++ spelling b
spelling-append [] b = refl
spelling-append (o ∷ os) b = ap (λ (t : List ℕ). option o.0 o.1 ++ t) (spelling-append os b) ∙ sym (append_assoc (option o.0 o.1) (spelling os) (spelling b))

left_options : (a b : List (ℕ × List ℕ)) → AreOptions (a ++ b) → AreOptions a
left_options [] b h = tt
left_options (o ∷ os) b h = (h.0, h.1, left_options os b h.2)

right_options : (a b : List (ℕ × List ℕ)) → AreOptions (a ++ b) → AreOptions b
right_options [] b h = h
right_options (o ∷ os) b h = right_options os b h.2

-- ---- from what bytes spell to the first fault

pub spells_none : (s : Sender) (bytes : List ℕ) (list : List (ℕ × List ℕ)) → Spells bytes list → AreAllowed s list → AreDecided s list → first_fault s bytes ≡ none
spells_none s bytes list p h d =
    let all : bytes ≡ spelling list ++ [] = p.whole ∙ sym (append-nil (spelling list)) in
    let cut : cut_from 0 bytes ≡ false = ap (cut_from 0) all ∙ cut_front list [] p.options ∙ cut_nothing in
    let same : listed bytes ≡ list ++ [] = ap listed all ∙ listed_front list [] p.options ∙ ap (λ (t : List (ℕ × List ℕ)). list ++ t) listed_nothing in
    let d' : AreDecided s (list ++ []) = rw (append-nil list) d in
    rw (cut, same) (fault_front s false false false None list [] d' h.formed (omega (arith, h.first)) (omega (arith, h.second)) (refl, refl))

-- The same of options that pass their test.
pub allowed_none : (s : Sender) (bytes : List ℕ) (list : List (ℕ × List ℕ)) → Spells bytes list → AreAllowed s list → AreTrue s list → first_fault s bytes ≡ none
allowed_none s bytes list p h t =
    let all : bytes ≡ spelling list ++ [] = p.whole ∙ sym (append-nil (spelling list)) in
    let cut : cut_from 0 bytes ≡ false = ap (cut_from 0) all ∙ cut_front list [] p.options ∙ cut_nothing in
    let same : listed bytes ≡ list = ap listed all ∙ listed_front list [] p.options ∙ ap (λ (t : List (ℕ × List ℕ)). list ++ t) listed_nothing ∙ append-nil list in
    rw (cut, same) (none_from s false false list t (omega (arith, h.first)) (omega (arith, h.second)))

pub listed_spells : (bytes : List ℕ) (list : List (ℕ × List ℕ)) → Spells bytes list → listed bytes ≡ list
listed_spells bytes list p =
    ap listed (p.whole ∙ sym (append-nil (spelling list))) ∙ listed_front list [] p.options ∙ ap (λ (t : List (ℕ × List ℕ)). list ++ t) listed_nothing ∙ append-nil list

pub fails_some : (s : Sender) (bytes : List ℕ) (fault : ListFault) → AreDecided s (listed bytes) → FailsList s fault bytes → first_fault s bytes ≡ Some fault
fails_some s bytes Cut d f = by f.stops where
  before : listed bytes ≡ f.front ++ listed f.rest
  before = ap listed f.whole ∙ listed_front f.front f.rest f.options

  by : (IsCut f.rest ⊎ ((code : ℕ) × (value : List ℕ) × BeginsWith code value f.rest × (IsFormed s code value → ⊥))) → first_fault s bytes ≡ Some Cut
  by (inl h) =
      let cut : cut_from 0 bytes ≡ true = ap (cut_from 0) f.whole ∙ cut_front f.front f.rest f.options ∙ cut_cut f.rest h in
      let same : listed bytes ≡ f.front ++ [] = before ∙ ap (λ (t : List (ℕ × List ℕ)). f.front ++ t) (listed_cut f.rest h) in
      rw (cut, same) (fault_front s false false true (Some Cut) f.front [] (rw same at d) f.allowed.formed (omega (arith, f.allowed.first)) (omega (arith, f.allowed.second)) (inl (refl, refl)))
  by (inr (code, value, w, n)) =
      let same : listed bytes ≡ f.front ++ (code, value) ∷ listed w.more =
      before ∙ ap (λ (t : List (ℕ × List ℕ)). f.front ++ t) (ap listed w.whole ∙ listed_whole code value w.more w.code_fits w.value_fits) in
      rw same (fault_front s false false (cut_from 0 bytes) (Some Cut) f.front ((code, value) ∷ listed w.more) (rw same at d) f.allowed.formed (omega (arith, f.allowed.first)) (omega (arith, f.allowed.second)) (inr ((code, value), listed w.more, refl, n)))
fails_some s bytes Twice d f =
    let code = f.stops.0 in
    let value = f.stops.1 in
    let w = f.stops.2 in
    let same : listed bytes ≡ f.front ++ (code, value) ∷ listed w.more =
    ap listed f.whole ∙ listed_front f.front f.rest f.options
    ∙ ap (λ (t : List (ℕ × List ℕ)). f.front ++ t) (ap listed w.whole ∙ listed_whole code value w.more w.code_fits w.value_fits) in
    rw same (fault_front s false false (cut_from 0 bytes) (Some Twice) f.front ((code, value) ∷ listed w.more) (rw same at d) f.allowed.formed (omega (arith, f.allowed.first)) (omega (arith, f.allowed.second)) ((code, value), listed w.more, refl, by f.stops.3))
  where
    by : (f.stops.0 ≡ first_code s) ⊎ (f.stops.0 ≡ second_code s)
        → ((f.stops.0 ≡ first_code s) × (1 ≤ 0 + count (first_code s) f.front)) ⊎ ((f.stops.0 ≡ second_code s) × (1 ≤ 0 + count (second_code s) f.front))
    by (inl e) = inl (e, omega (arith, rw e at f.stops.4))
    by (inr e) = inr (e, omega (arith, rw e at f.stops.4))

-- ---- from the first fault to what bytes spell

abbrev pub Is : Sender → List ℕ → Option ListFault → Type 0
Is s bytes None = Spells bytes (listed bytes) × AreAllowed s (listed bytes)
Is s bytes (Some fault) = FailsList s fault bytes

-- The whole options of the bytes, and what follows them.
record Cutting (s : Sender) (bytes : List ℕ) (cut : Bool) (list : List (ℕ × List ℕ)) : Type 0 where
  rest : List ℕ
  whole : bytes ≡ spelling list ++ rest
  options : AreOptions list
  ends : bytes_of.Ends cut rest

-- The front's bytes, and what follows them.
front_whole : (s : Sender) (bytes : List ℕ) (cut : Bool) (list front back : List (ℕ × List ℕ)) → (c : Cutting s bytes cut list) → list ≡ front ++ back → bytes ≡ spelling front ++ (spelling back ++ c.rest)
front_whole s bytes cut list front back c whole =
    c.whole ∙ ap (λ (t : List (ℕ × List ℕ)). spelling t ++ c.rest) whole ∙ ap (λ (t : List ℕ). t ++ c.rest) (spelling-append front back) ∙ append_assoc (spelling front) (spelling back) c.rest

front_allowed : (s : Sender) (cut : Bool) (found : Option ListFault) (list : List (ℕ × List ℕ)) → (l : Longest s false false cut found list) → AreAllowed s l.front
front_allowed s cut found list l = record { formed = l.formed; first = omega (arith, l.first); second = omega (arith, l.second) }

begins : (o : ℕ × List ℕ) (more back : List (ℕ × List ℕ)) (rest : List ℕ) → back ≡ o ∷ more → AreOptions back → BeginsWith o.0 o.1 (spelling back ++ rest)
begins o more back rest e h =
    let here : AreOptions (o ∷ more) = rw e at h in
    record {
      more = spelling more ++ rest;
      whole = ap (λ (t : List (ℕ × List ℕ)). spelling t ++ rest) e ∙ append_assoc (option o.0 o.1) (spelling more) rest;
      code_fits = here.0;
      value_fits = here.1;
    }

is_found : (s : Sender) (bytes : List ℕ) (cut : Bool) (list : List (ℕ × List ℕ)) (found : Option ListFault) → listed bytes ≡ list → Cutting s bytes cut list → Longest s false false cut found list → Is s bytes found
is_found s bytes cut list None same c l =
    let no_back : list ≡ l.front = l.whole ∙ ap (λ (t : List (ℕ × List ℕ)). l.front ++ t) l.ends.1 ∙ append-nil l.front in
    let ends : bytes_of.Ends false c.rest = rw l.ends.0 at c.ends in
    let all : bytes ≡ spelling list = c.whole ∙ ap (λ (t : List ℕ). spelling list ++ t) ends ∙ append-nil (spelling list) in
    rw same (record { whole = all; options = c.options }, rw no_back (front_allowed s cut None list l))
is_found s bytes cut list (Some Cut) same c l = record {
  front = l.front;
  rest = spelling l.back ++ c.rest;
  whole = front_whole s bytes cut list l.front l.back c l.whole;
  options = left_options l.front l.back (rw l.whole at c.options);
  allowed = front_allowed s cut (Some Cut) list l;
  stops = by l.ends;
}
  where
    right : AreOptions l.back
    right = right_options l.front l.back (rw l.whole at c.options)

    by : (((cut ≡ true) × (l.back ≡ [])) ⊎ ((o : ℕ × List ℕ) × (more : List (ℕ × List ℕ)) × (l.back ≡ o ∷ more) × (IsFormed s o.0 o.1 → ⊥)))
        → IsCut (spelling l.back ++ c.rest) ⊎ ((code : ℕ) × (value : List ℕ) × BeginsWith code value (spelling l.back ++ c.rest) × (IsFormed s code value → ⊥))
    by (inl h) = inl (rw h.1 (rw h.0 at c.ends))
    by (inr (o, more, e, n)) = inr (o.0, o.1, begins o more l.back c.rest e right, n)
is_found s bytes cut list (Some Twice) same c l = record {
  front = l.front;
  rest = spelling l.back ++ c.rest;
  whole = front_whole s bytes cut list l.front l.back c l.whole;
  options = left_options l.front l.back (rw l.whole at c.options);
  allowed = front_allowed s cut (Some Twice) list l;
  stops = (l.ends.0.0, l.ends.0.1, begins l.ends.0 l.ends.1 l.back c.rest l.ends.2 right, which l.ends.3, met l.ends.3);
}
  where
    right : AreOptions l.back
    right = right_options l.front l.back (rw l.whole at c.options)

    which : ((l.ends.0.0 ≡ first_code s) × (1 ≤ 0 + count (first_code s) l.front)) ⊎ ((l.ends.0.0 ≡ second_code s) × (1 ≤ 0 + count (second_code s) l.front)) → (l.ends.0.0 ≡ first_code s) ⊎ (l.ends.0.0 ≡ second_code s)
    which (inl h) = inl h.0
    which (inr h) = inr h.0

    met : ((l.ends.0.0 ≡ first_code s) × (1 ≤ 0 + count (first_code s) l.front)) ⊎ ((l.ends.0.0 ≡ second_code s) × (1 ≤ 0 + count (second_code s) l.front)) → 1 ≤ count l.ends.0.0 l.front
    met (inl h) = rw h.0 (omega (arith, h.1))
    met (inr h) = rw h.0 (omega (arith, h.1))

found_is : (s : Sender) (bytes : List ℕ) (cut : Bool) (list : List (ℕ × List ℕ)) (found : Option ListFault) → listed bytes ≡ list → cut_from 0 bytes ≡ cut → AreDecided s list → Longest s false false cut found list → first_fault s bytes ≡ found
found_is s bytes cut list found same cut_is d l =
    rw (cut_is, same) (ap (fault_of s false false cut) l.whole ∙ fault_front s false false cut found l.front l.back (rw l.whole at d) l.formed l.first l.second l.ends)

by_longest : (s : Sender) (bytes : List ℕ) (cut : Bool) (list : List (ℕ × List ℕ)) (found : Option ListFault) → listed bytes ≡ list → cut_from 0 bytes ≡ cut → AreDecided s list → Cutting s bytes cut list → Longest s false false cut found list → Is s bytes (first_fault s bytes)
by_longest s bytes cut list found same cut_is d c l = rw (found_is s bytes cut list found same cut_is d l) (is_found s bytes cut list found same c l)

pub listed_of : (bytes : List ℕ) (cut : Bool) (front : List (ℕ × List ℕ)) (rest : List ℕ) → bytes ≡ spelling front ++ rest → AreOptions front → bytes_of.Ends cut rest → listed bytes ≡ front
listed_of bytes true front rest w o e = ap listed w ∙ listed_front front rest o ∙ ap (λ (t : List (ℕ × List ℕ)). front ++ t) (listed_cut rest e) ∙ append-nil front
listed_of bytes false front rest w o e = ap listed w ∙ listed_front front rest o ∙ ap (λ (t : List (ℕ × List ℕ)). front ++ t) (ap listed e ∙ listed_nothing) ∙ append-nil front

cut_of : (bytes : List ℕ) (cut : Bool) (front : List (ℕ × List ℕ)) (rest : List ℕ) → bytes ≡ spelling front ++ rest → AreOptions front → bytes_of.Ends cut rest → cut_from 0 bytes ≡ cut
cut_of bytes true front rest w o e = ap (cut_from 0) w ∙ cut_front front rest o ∙ cut_cut rest e
cut_of bytes false front rest w o e = ap (cut_from 0) w ∙ cut_front front rest o ∙ ap (cut_from 0) e ∙ cut_nothing

by_cutting : (s : Sender) (bytes : List ℕ) (cut : Bool) (list : List (ℕ × List ℕ)) (rest : List ℕ) → bytes ≡ spelling list ++ rest → AreOptions list → bytes_of.Ends cut rest → AreDecided s (listed bytes) → Is s bytes (first_fault s bytes)
by_cutting s bytes cut list rest whole options ends d =
    let same = listed_of bytes cut list rest whole options ends in
    let d' : AreDecided s list = rw same at d in
    let l = longest s false false cut list d' in
    by_longest s bytes cut list l.0 same (cut_of bytes cut list rest whole options ends) d' (record { rest = rest; whole = whole; options = options; ends = ends }) l.1

pub first_fault_is : (s : Sender) (bytes : List ℕ) → bytes_of.AreSmall bytes → AreDecided s (listed bytes) → Is s bytes (first_fault s bytes)
first_fault_is s bytes small d =
    let b = bytes_of.longest 0 bytes small in
    by_cutting s bytes b.is_cut b.front b.rest b.whole b.options b.ends d
