-- Reading suboptions returns a list exactly where the bytes spell it, and a fault exactly where they
-- have it.
use Rattle.std.proofs.Common.{◌≡◌, ℕ, List, [], ◌∷◌, ◌++◌, Option, Some, None, Result, Ok, Err, refl, sym, ap, ◌∙◌}
use Rattle.std.specs.Prelude.{◌↔◌}
use Rattle.std.proofs.lemmas.List.{append-nil}
use Rattle.v4_options.specs.declared.fault.OptFault.{OptFault}
use Rattle.v4_options.specs.declared.fault.OptFault.TheVariants as faults
use Rattle.v4_options.specs.declared.fault.SuboptFault.{SuboptFault}
use Rattle.v4_options.specs.declared.fault.SuboptFault.TheVariants.{Cut, Twice}
use Rattle.v4_options.specs.declared.token.Syntax.TheVariants.{Suboptions}
use Rattle.v4_options.specs.Spelling.{spelling, row, options, option, Piece, Pad, Whole}
use Rattle.v4_options.specs.Reading.{listed_from, no_code}
use Rattle.v4_options.specs.Suboptions.{AreDistinct, SpellsSuboptions, StopsSub, FailsSuboptions}
use Rattle.v4_options.specs.Subreading.{subfault, subread_or, suboptions_of}
use Rattle.v4_options.proofs.Steps.{listed_nothing}
use Rattle.v4_options.proofs.Distinct.{after, after_is, distinct-new, new-distinct}
use Rattle.v4_options.proofs.Fronts.{IsFront, Ends, Longest, longest, fault_longest, listed_front, pieces, row-pieces, options-pieces}
use Rattle.v4_options.proofs.Results.{one_ok, one_err, ok_or_err}

-- Among suboptions a front has no pads.
row_spelling : (front : List Piece) → IsFront Suboptions front → row front ≡ spelling (options front)
row_spelling [] is = refl
row_spelling (Pad ∷ front) is = absurd (cc is.0)
row_spelling (Whole code v ∷ front) is = ap (λ (t : List ℕ). option code v ++ t) (row_spelling front is.1)

is_front : (list : List (ℕ × List ℕ)) → IsFront Suboptions (pieces list)
is_front [] = tt
is_front (o ∷ os) = ((refl, refl), is_front os)

sublisted_spelling : (list : List (ℕ × List ℕ)) → listed_from Suboptions 0 (spelling list) ≡ list
sublisted_spelling list =
    ap (listed_from Suboptions 0) (sym (append-nil (spelling list)) ∙ ap (λ (t : List ℕ). t ++ []) (sym (row-pieces list)))
    ∙ listed_front Suboptions (pieces list) [] (is_front list)
    ∙ ap (λ (os : List (ℕ × List ℕ)). options (pieces list) ++ os) (listed_nothing Suboptions)
    ∙ append-nil (options (pieces list))
    ∙ options-pieces list

read_as : (bytes : List ℕ) (found : Option OptFault) → Longest Suboptions no_code bytes found → suboptions_of bytes ≡ subread_or (subfault found) bytes
read_as bytes found l = ap (λ (f : Option OptFault). subread_or (subfault f) bytes) (fault_longest Suboptions bytes found l)

-- ---- from bytes to the result

abbrev Is : List ℕ → Result (List (ℕ × List ℕ)) SuboptFault → Type 0
Is bytes (Ok list) = SpellsSuboptions bytes list
Is bytes (Err fault) = FailsSuboptions fault bytes

fails_as : (bytes : List ℕ) (found : Option OptFault) (fault : SuboptFault) (l : Longest Suboptions no_code bytes found) → StopsSub fault (options l.front) l.rest → FailsSuboptions fault bytes
fails_as bytes found fault l stops = record {
  front = options l.front;
  rest = l.rest;
  whole = l.whole ∙ ap (λ (t : List ℕ). t ++ l.rest) (row_spelling l.front l.is_front);
  distinct = new-distinct (options l.front) l.new;
  stops = stops;
}

is_read : (bytes : List ℕ) (found : Option OptFault) → Longest Suboptions no_code bytes found → Is bytes (subread_or (subfault found) bytes)
is_read bytes None l = absurd (cc l.ends.3)
is_read bytes (Some faults.NoEnd) l =
    let all : bytes ≡ spelling (options l.front) = l.whole ∙ ap (λ (t : List ℕ). row l.front ++ t) l.ends ∙ append-nil (row l.front) ∙ row_spelling l.front l.is_front in
    let list : listed_from Suboptions 0 bytes ≡ options l.front = ap (listed_from Suboptions 0) all ∙ sublisted_spelling (options l.front) in
    rw list (record { whole = all; distinct = new-distinct (options l.front) l.new })
is_read bytes (Some faults.Cut) l = fails_as bytes (Some faults.Cut) Cut l (l.ends.0, l.ends.1, l.ends.2, l.ends.4)
is_read bytes (Some faults.Twice) l =
    fails_as bytes (Some faults.Twice) Twice l (l.ends.0, l.ends.1, l.ends.2, l.ends.3, sym (after_is no_code (options l.front) l.ends.0) ∙ l.ends.5)

read_is : (bytes : List ℕ) → Is bytes (suboptions_of bytes)
read_is bytes =
    let l = longest Suboptions no_code 0 bytes in
    rw (read_as bytes l.0 l.1) (is_read bytes l.0 l.1)

-- ---- from what bytes spell to the result

-- A list is a front.
longest_list : (bytes : List ℕ) (list : List (ℕ × List ℕ)) (rest : List ℕ) (found : Option OptFault) → bytes ≡ spelling list ++ rest → AreDistinct list → Ends Suboptions (after no_code list) found rest → Longest Suboptions no_code bytes found
longest_list bytes list rest found whole distinct ends = record {
  front = pieces list;
  rest = rest;
  whole = whole ∙ ap (λ (t : List ℕ). t ++ rest) (sym (row-pieces list));
  is_front = is_front list;
  new = rw (options-pieces list) (distinct-new list distinct);
  ends = rw (options-pieces list) ends;
}

pub read_spells : (bytes : List ℕ) (list : List (ℕ × List ℕ)) → SpellsSuboptions bytes list → suboptions_of bytes ≡ Ok list
read_spells bytes list s =
    let l = longest_list bytes list [] (Some faults.NoEnd) (s.whole ∙ sym (append-nil (spelling list))) s.distinct refl in
    let listed : listed_from Suboptions 0 bytes ≡ list = ap (listed_from Suboptions 0) s.whole ∙ sublisted_spelling list in
    read_as bytes (Some faults.NoEnd) l ∙ rw listed refl

pub read_fails : (bytes : List ℕ) (fault : SuboptFault) → FailsSuboptions fault bytes → suboptions_of bytes ≡ Err fault
read_fails bytes Cut f =
    let s = f.stops in
    read_as bytes (Some faults.Cut) (longest_list bytes f.front f.rest (Some faults.Cut) f.whole f.distinct (s.0, s.1, s.2, (refl, refl), s.3))
read_fails bytes Twice f =
    let s = f.stops in
    read_as bytes (Some faults.Twice) (longest_list bytes f.front f.rest (Some faults.Twice) f.whole f.distinct (s.0, s.1, s.2, s.3, (refl, refl), after_is no_code f.front s.0 ∙ s.4))

-- ---- both ways

abbrev ok : List (ℕ × List ℕ) → Result (List (ℕ × List ℕ)) SuboptFault
ok list = Ok list

abbrev err : SuboptFault → Result (List (ℕ × List ℕ)) SuboptFault
err fault = Err fault

pub spelled : (bytes : List ℕ) (list : List (ℕ × List ℕ)) → suboptions_of bytes ≡ ok list ↔ SpellsSuboptions bytes list
spelled bytes list = (λ e. rw e at (read_is bytes), read_spells bytes list)

pub fails : (bytes : List ℕ) (fault : SuboptFault) → suboptions_of bytes ≡ err fault ↔ FailsSuboptions fault bytes
fails bytes fault = (λ e. rw e at (read_is bytes), read_fails bytes fault)

pub one_list : (bytes : List ℕ) (a b : List (ℕ × List ℕ)) → SpellsSuboptions bytes a → SpellsSuboptions bytes b → a ≡ b
one_list bytes a b p q = one_ok (suboptions_of bytes) a b (read_spells bytes a p) (read_spells bytes b q)

pub one_fault : (bytes : List ℕ) (a b : SuboptFault) → FailsSuboptions a bytes → FailsSuboptions b bytes → a ≡ b
one_fault bytes a b p q = one_err (suboptions_of bytes) a b (read_fails bytes a p) (read_fails bytes b q)

pub never_both : (bytes : List ℕ) (list : List (ℕ × List ℕ)) (fault : SuboptFault) → SpellsSuboptions bytes list → FailsSuboptions fault bytes → ⊥
never_both bytes list fault p q = ok_or_err (suboptions_of bytes) list fault (read_spells bytes list p) (read_fails bytes fault q)

pub written_spells : (list : List (ℕ × List ℕ)) → AreDistinct list → SpellsSuboptions (spelling list) list
written_spells list h = record { whole = refl; distinct = h }

pub written_is_read : (list : List (ℕ × List ℕ)) → AreDistinct list → suboptions_of (spelling list) ≡ ok list
written_is_read list h = read_spells (spelling list) list (written_spells list h)
