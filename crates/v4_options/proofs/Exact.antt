-- Reading options returns a list exactly where the bytes spell it, and a fault exactly where they have
-- it.
use Rattle.std.proofs.Common.{◌≡◌, ℕ, List, [], ◌∷◌, ◌++◌, Option, Some, None, Result, Ok, Err, refl, sym, ap, ◌∙◌}
use Rattle.std.specs.Prelude.{◌↔◌}
use Rattle.std.proofs.lemmas.Bool.{ne_eqb, eqb-false}
use Rattle.std.proofs.lemmas.List.{append-nil}
use Rattle.v4_options.specs.Codes.{PAD, END}
use Rattle.v4_options.specs.declared.fault.OptFault.{OptFault}
use Rattle.v4_options.specs.declared.fault.OptFault.TheVariants.{NoEnd, Cut, Twice}
use Rattle.v4_options.specs.declared.token.Syntax.TheVariants.{Options}
use Rattle.v4_options.specs.Spelling.{spelling, row, options, Piece, Pad, Whole, AreOptions, Spells, Stops, Fails}
use Rattle.v4_options.specs.Reading.{listed_from, fault_from, no_code, read_or, options_of}
use Rattle.v4_options.specs.Suboptions.{AreDistinct}
use Rattle.v4_options.proofs.Steps.{listed_end}
use Rattle.v4_options.proofs.Distinct.{after, after_is, distinct-new, new-distinct}
use Rattle.v4_options.proofs.Fronts.{IsFront, Ends, Longest, longest, fault_longest, listed_front, pieces, row-pieces, options-pieces}
use Rattle.v4_options.proofs.Results.{one_ok, one_err, ok_or_err}

-- A front's options, by its pieces.
options_front : (front : List Piece) → AreOptions (options front) → IsFront Options front × AreDistinct (options front)
options_front [] h = (tt, tt)
options_front (Pad ∷ front) h = ((refl, (options_front front h).0), (options_front front h).1)
options_front (Whole code v ∷ front) h =
    let r = options_front front h.3 in
    (((ne_eqb code PAD h.0, ne_eqb code END h.1), r.0), (h.2, r.1))

front_options : (front : List Piece) → IsFront Options front → AreDistinct (options front) → AreOptions (options front)
front_options [] is d = tt
front_options (Pad ∷ front) is d = front_options front is.1 d
front_options (Whole code v ∷ front) is d = (eqb-false code PAD is.0.0, eqb-false code END is.0.1, d.0, front_options front is.1 d.1)

listed_whole_front : (bytes : List ℕ) (front : List Piece) (rest : List ℕ) → bytes ≡ row front ++ END ∷ rest → IsFront Options front → listed_from Options 0 bytes ≡ options front
listed_whole_front bytes front rest whole is =
    ap (listed_from Options 0) whole
    ∙ listed_front Options front (END ∷ rest) is
    ∙ ap (λ (os : List (ℕ × List ℕ)). options front ++ os) (listed_end Options rest refl refl)
    ∙ append-nil (options front)

-- ---- from bytes to the result

stops : (fault : OptFault) (list : List (ℕ × List ℕ)) (rest : List ℕ) → Ends Options (after no_code list) (Some fault) rest → Stops fault list rest
stops NoEnd list rest h = h
stops Cut list rest h = (h.0, h.1, h.2, eqb-false h.0 PAD h.3.0, eqb-false h.0 END h.3.1, h.4)
stops Twice list rest h = (h.0, h.1, h.2, h.3, eqb-false h.0 PAD h.4.0, eqb-false h.0 END h.4.1, sym (after_is no_code list h.0) ∙ h.5)

-- What a result means.
abbrev Is : List ℕ → Result (List (ℕ × List ℕ)) OptFault → Type 0
Is bytes (Ok list) = Spells bytes list
Is bytes (Err fault) = Fails fault bytes

is_read : (bytes : List ℕ) (found : Option OptFault) → Longest Options no_code bytes found → Is bytes (read_or found bytes)
is_read bytes None l =
    let whole : bytes ≡ row l.front ++ END ∷ l.ends.0 = l.whole ∙ ap (λ (t : List ℕ). row l.front ++ t) l.ends.1 in
    record {
      front = l.front;
      rest = l.ends.0;
      whole = whole;
      distinct = front_options l.front l.is_front (new-distinct (options l.front) l.new);
      in_order = listed_whole_front bytes l.front l.ends.0 whole l.is_front;
    }
is_read bytes (Some fault) l = record {
  front = l.front;
  rest = l.rest;
  whole = l.whole;
  distinct = front_options l.front l.is_front (new-distinct (options l.front) l.new);
  stops = stops fault (options l.front) l.rest l.ends;
}

read_is : (bytes : List ℕ) → Is bytes (options_of bytes)
read_is bytes =
    let l = longest Options no_code 0 bytes in
    rw (fault_longest Options bytes l.0 l.1) (is_read bytes l.0 l.1)

-- ---- from what bytes spell to the result

pub read_spells : (bytes : List ℕ) (list : List (ℕ × List ℕ)) → Spells bytes list → options_of bytes ≡ Ok list
read_spells bytes list s =
    let is = options_front s.front s.distinct in
    let fault : fault_from Options no_code 0 bytes ≡ None = fault_longest Options bytes None (record { front = s.front; rest = END ∷ s.rest; whole = s.whole; is_front = is.0; new = distinct-new (options s.front) is.1; ends = (s.rest, refl, refl, refl) }) in
    let all : listed_from Options 0 bytes ≡ list = listed_whole_front bytes s.front s.rest s.whole is.0 ∙ sym s.in_order in
    rw (fault, all) refl

ends : (fault : OptFault) (list : List (ℕ × List ℕ)) (rest : List ℕ) → Stops fault list rest → Ends Options (after no_code list) (Some fault) rest
ends NoEnd list rest h = h
ends Cut list rest h = (h.0, h.1, h.2, (ne_eqb h.0 PAD h.3, ne_eqb h.0 END h.4), h.5)
ends Twice list rest h = (h.0, h.1, h.2, h.3, (ne_eqb h.0 PAD h.4, ne_eqb h.0 END h.5), after_is no_code list h.0 ∙ h.6)

pub read_fails : (bytes : List ℕ) (fault : OptFault) → Fails fault bytes → options_of bytes ≡ Err fault
read_fails bytes fault f =
    let is = options_front f.front f.distinct in
    let first : fault_from Options no_code 0 bytes ≡ Some fault = fault_longest Options bytes (Some fault) (record { front = f.front; rest = f.rest; whole = f.whole; is_front = is.0; new = distinct-new (options f.front) is.1; ends = ends fault (options f.front) f.rest f.stops }) in
    rw first refl

-- ---- both ways

abbrev ok : List (ℕ × List ℕ) → Result (List (ℕ × List ℕ)) OptFault
ok list = Ok list

abbrev err : OptFault → Result (List (ℕ × List ℕ)) OptFault
err fault = Err fault

pub spelled : (bytes : List ℕ) (list : List (ℕ × List ℕ)) → options_of bytes ≡ ok list ↔ Spells bytes list
spelled bytes list = (λ e. rw e at (read_is bytes), read_spells bytes list)

pub fails : (bytes : List ℕ) (fault : OptFault) → options_of bytes ≡ err fault ↔ Fails fault bytes
fails bytes fault = (λ e. rw e at (read_is bytes), read_fails bytes fault)

pub one_list : (bytes : List ℕ) (a b : List (ℕ × List ℕ)) → Spells bytes a → Spells bytes b → a ≡ b
one_list bytes a b p q = one_ok (options_of bytes) a b (read_spells bytes a p) (read_spells bytes b q)

pub one_fault : (bytes : List ℕ) (a b : OptFault) → Fails a bytes → Fails b bytes → a ≡ b
one_fault bytes a b p q = one_err (options_of bytes) a b (read_fails bytes a p) (read_fails bytes b q)

pub never_both : (bytes : List ℕ) (list : List (ℕ × List ℕ)) (fault : OptFault) → Spells bytes list → Fails fault bytes → ⊥
never_both bytes list fault p q = ok_or_err (options_of bytes) list fault (read_spells bytes list p) (read_fails bytes fault q)

-- ---- a list that was written

pub written_spells : (list : List (ℕ × List ℕ)) (rest : List ℕ) → AreOptions list → Spells (spelling list ++ END ∷ rest) list
written_spells list rest h = record {
  front = pieces list;
  rest = rest;
  whole = ap (λ (t : List ℕ). t ++ END ∷ rest) (sym (row-pieces list));
  distinct = rw (options-pieces list) h;
  in_order = sym (options-pieces list);
}

pub written_is_read : (list : List (ℕ × List ℕ)) (rest : List ℕ) → AreOptions list → options_of (spelling list ++ END ∷ rest) ≡ ok list
written_is_read list rest h = read_spells (spelling list ++ END ∷ rest) list (written_spells list rest h)

pub spelled_distinct : (bytes : List ℕ) (list : List (ℕ × List ℕ)) → Spells bytes list → AreOptions list
spelled_distinct bytes list s = rw s.in_order s.distinct
