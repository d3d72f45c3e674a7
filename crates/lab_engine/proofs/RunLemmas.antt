-- A run, one line more at a time.
use Rattle.std.proofs.Common.{◌≡◌, ℕ, ◌+◌, ◌<◌, ◌⊎◌, inl, inr, true, List, [], ◌∷◌, ◌++◌, length, take, drop, take-append-drop, take_all, refl, ap, sym, subst, ◌∙◌, arith, append_assoc, append-nil, length-append}
use Rattle.std.specs.Prelude.{⊤, Option, Some, None}
use Rattle.std.specs.Io.KnownBytes.{Appends, Consumes, Keeps, IsAtEnd, prepend_known}
use Rattle.std.proofs.KnownBytes.{Consumes-kept, prepend_known-nil}
use Rattle.std.proofs.lemmas.List.{length-take-le}
use Rattle.std.proofs.lemmas.Option.{same_Some}
use Rattle.config.specs.Plans.{PlansValue}
use Rattle.world.specs.Alone.{Alone}
use Rattle.world.specs.Headline.{CircuitState}
use Rattle.streams.specs.declared.line.LineEnd.TheVariants.{EndOfInput, TooLong}
use Rattle.streams.specs.LineEnd.{Fits, HoldsLast, HoldsLong, IsCounted, IsLine, IsLast, IsLong, IsCut}
use Rattle.lab_engine.specs.Lab.{Output, LineResult, Refused, Applied, line_result, and_then, lab_from, events_output}
use Rattle.lab_text.specs.Line.{line_of_text}
use Rattle.streams.specs.Lines.{lacks, lines_of}
use Rattle.lab_engine.specs.Run.{IsPartial}
use Rattle.streams.specs.Writing.{AppendsPrefix}
use Rattle.lab_engine.specs.Progress.{AllRepresent, IsRefusal, HasResult, HasLastResult, SoFar, Ends, after}
use Rattle.lab_engine.specs.Output.{bad_text}
use Rattle.streams.proofs.AheadLemmas.{all_consumed, held_consumed}
use Rattle.streams.proofs.CutLemmas.{line_before, line_begins, line_last}
use Rattle.streams.proofs.ReadLemmas.{consumes_none, consumes_more}
use Rattle.streams.proofs.WriteLemmas.{appends_none, appends_kept, appends_more, front_behind, front_longer}
use Rattle.lab_engine.proofs.LineResultLemmas.{long_is}

-- nothing was read, and any text may come
at_first : (plans : PlansValue) (quota : ℕ) (machines : ℕ → Alone) (given held : Option (List ℕ)) (states : List CircuitState) (Known : List ℕ → Type 0) → AllRepresent plans quota states machines
    → SoFar plans quota 1 (events_output plans quota machines) given given held held states Known
at_first plans quota machines given held states Known represents = record {
  machines = machines;
  represents = represents;
  read = [];
  consumed = consumes_none given;
  written = [];
  appended = appends_none held;
  whole = λ rest known. refl;
}

-- what was written is flushed, and more is read ahead
pub so_far_kept : (plans : PlansValue) (quota number : ℕ) (output : List ℕ → Output) (given left left2 held holds holds2 : Option (List ℕ)) (states : List CircuitState) (Known Known2 : List ℕ → Type 0)
    → SoFar plans quota number output given left held holds states Known → Keeps left left2 → Keeps holds holds2 → ((rest : List ℕ) → Known2 rest → Known rest)
    → SoFar plans quota number output given left2 held holds2 states Known2
so_far_kept plans quota number output given left left2 held holds holds2 states Known Known2 s ahead flushed fits = record {
  machines = s.machines;
  represents = s.represents;
  read = s.read;
  consumed = Consumes-kept given left left2 s.read s.consumed ahead;
  written = s.written;
  appended = appends_kept held holds holds2 s.written s.appended flushed;
  whole = λ rest known. s.whole rest (fits rest known);
}

-- the first line is read
pub at_start : (plans : PlansValue) (quota : ℕ) (machines : ℕ → Alone) (given left held holds : Option (List ℕ)) (states : List CircuitState) (Known : List ℕ → Type 0) (none : List ℕ) → none ≡ []
    → Keeps (prepend_known none given) left → Keeps held holds → AllRepresent plans quota states machines
    → SoFar plans quota 1 (events_output plans quota machines) given left held holds states Known
at_start plans quota machines given left held holds states Known none is ahead flushed represents =
    so_far_kept plans quota 1 (events_output plans quota machines) given given left held held holds states Known Known (at_first plans quota machines given held states Known represents)
    (subst (λ o. Keeps o left) (ap (λ v. prepend_known v given) is ∙ prepend_known-nil given) ahead) flushed (λ rest known. known)

-- nothing was written
pub partial_none : (output : List ℕ → Output) (given left held holds : Option (List ℕ)) (before after : ℕ) → IsCounted given left before after → Keeps held holds → IsPartial output given left held holds
partial_none output given left held holds before count counted flushed = record {
  read = counted.bytes;
  consumed = counted.read;
  partial = record { front = []; rest = (output counted.bytes).text; parted = refl; appended = appends_kept held held holds [] (appends_none held) flushed };
}

none_written : (plans : PlansValue) (quota number : ℕ) (machines : ℕ → Alone) → lab_from plans quota number machines [] ≡ record { text = []; status = 0 }
unfolding lab_from
none_written plans quota number machines = refl

one_line : (plans : PlansValue) (quota number : ℕ) (machines : ℕ → Alone) (line : List ℕ) (lines : List (List ℕ))
    → lab_from plans quota number machines (line ∷ lines) ≡ and_then number (line_result plans quota machines (line_of_text plans.union plans.count line)) (λ next. lab_from plans quota (number + 1) next lines)
unfolding lab_from
one_line plans quota number machines line lines = refl

no_lines : lines_of [] ≡ []
unfolding lines_of
no_lines = refl

-- output in two parts
after_more : (xs ys : List ℕ) (o : Output) → after xs (after ys o) ≡ after (xs ++ ys) o
after_more xs ys o = ap (λ text. record { text = text; status = o.status }) (sym (append_assoc xs ys o.text))

-- the output for a text after a part of it
goes_on : (plans : PlansValue) (quota number : ℕ) (output : List ℕ → Output) (given left held holds : Option (List ℕ)) (states : List CircuitState) (Known : List ℕ → Type 0) (s : SoFar plans quota number output given left held holds states Known) (part rest : List ℕ) → Known (part ++ rest)
    → output ((s.read ++ part) ++ rest) ≡ after s.written (lab_from plans quota number s.machines (lines_of (part ++ rest)))
goes_on plans quota number output given left held holds states Known s part rest fits =
    ap output (append_assoc s.read part rest) ∙ s.whole (part ++ rest) fits

-- a line with its line feed
line_on : (plans : PlansValue) (quota number : ℕ) (machines : ℕ → Alone) (line rest : List ℕ) → lacks 10 line ≡ true
    → lab_from plans quota number machines (lines_of ((line ++ 10 ∷ []) ++ rest)) ≡ and_then number (line_result plans quota machines (line_of_text plans.union plans.count line)) (λ next. lab_from plans quota (number + 1) next (lines_of rest))
line_on plans quota number machines line rest plain =
    ap (λ text. lab_from plans quota number machines (lines_of text)) (append_assoc line (10 ∷ []) rest)
    ∙ ap (lab_from plans quota number machines) (line_before line rest plain)
    ∙ one_line plans quota number machines line (lines_of rest)

next_at : (plans : PlansValue) (quota number : ℕ) (output : List ℕ → Output) (given left left2 held holds holds2 : Option (List ℕ)) (states states2 : List CircuitState) (Known : List ℕ → Type 0) (line : List ℕ) (t : LineResult)
    → (s : SoFar plans quota number output given left held holds states Known) → IsLine left left2 line → ((rest : List ℕ) → Known ((line ++ 10 ∷ []) ++ rest)) → line_result plans quota s.machines (line_of_text plans.union plans.count line) ≡ t
    → HasResult plans quota number t states2 holds holds2 None → SoFar plans quota (number + 1) output given left2 held holds2 states2 (λ rest. ⊤)
next_at plans quota number output given left left2 held holds holds2 states states2 Known line Refused s read fits is follows = absurd follows
next_at plans quota number output given left left2 held holds holds2 states states2 Known line (Applied written machines) s read fits is follows = record {
  machines = machines;
  represents = follows.represents;
  read = s.read ++ (line ++ 10 ∷ []);
  consumed = consumes_more given left left2 s.read (line ++ 10 ∷ []) s.consumed read.read;
  written = s.written ++ written;
  appended = appends_more held holds holds2 s.written written s.appended follows.appended;
  whole = λ rest known.
      goes_on plans quota number output given left held holds states Known s (line ++ 10 ∷ []) rest (fits rest)
      ∙ ap (after s.written) (line_on plans quota number s.machines line rest read.plain ∙ ap (λ t. and_then number t (λ next. lab_from plans quota (number + 1) next (lines_of rest))) is)
      ∙ after_more s.written written (lab_from plans quota (number + 1) machines (lines_of rest));
}

-- one line more
pub next_line : (plans : PlansValue) (quota number : ℕ) (output : List ℕ → Output) (given left left2 held holds holds2 : Option (List ℕ)) (states states2 : List CircuitState) (Known : List ℕ → Type 0) (line : List ℕ)
    → SoFar plans quota number output given left held holds states Known → IsLine left left2 line → ((rest : List ℕ) → Known ((line ++ 10 ∷ []) ++ rest))
    → ((machines : ℕ → Alone) → AllRepresent plans quota states machines → HasResult plans quota number (line_result plans quota machines (line_of_text plans.union plans.count line)) states2 holds holds2 None)
    → SoFar plans quota (number + 1) output given left2 held holds2 states2 (λ rest. ⊤)
next_line plans quota number output given left left2 held holds holds2 states states2 Known line s read fits follows =
    next_at plans quota number output given left left2 held holds holds2 states states2 Known line (line_result plans quota s.machines (line_of_text plans.union plans.count line)) s read fits refl (follows s.machines s.represents)

-- what may be left where the run ends: what the reader has, or nothing more
abbrev Left : Option (List ℕ) → List ℕ → Type 0
Left left rest = (left ≡ Some rest) ⊎ (rest ≡ [])

-- The run ends with a part of the text that has this result, whatever is left.
ends_at : (plans : PlansValue) (quota number : ℕ) (output : List ℕ → Output) (given left left2 held holds holds2 : Option (List ℕ)) (states states2 : List CircuitState) (Known : List ℕ → Type 0) (part : List ℕ) (status : ℕ) (t : LineResult)
    → (s : SoFar plans quota number output given left held holds states Known) → Consumes left left2 part → ((rest : List ℕ) → Left left2 rest → Known (part ++ rest))
    → (f : List ℕ → (ℕ → Alone) → Output)
    → ((rest : List ℕ) → Left left2 rest → lab_from plans quota number s.machines (lines_of (part ++ rest)) ≡ and_then number t (f rest))
    → HasResult plans quota number t states2 holds holds2 (Some status)
    → Ends output given left2 held holds2 status
ends_at plans quota number output given left left2 held holds holds2 states states2 Known part status Refused s read fits f comes (inl (is, wrote)) = record {
  read = s.read ++ part;
  consumed = consumes_more given left left2 s.read part s.consumed read;
  exact = λ fine rest here.
      let all = goes_on plans quota number output given left held holds states Known s part rest (fits rest (inl here)) ∙ ap (after s.written) (comes rest (inl here)) in
      (subst (λ o. Appends held holds2 o.text) (sym all) (appends_more held holds holds2 s.written (bad_text number) s.appended wrote), is ∙ sym (ap (λ o. o.status) all));
  partial = λ failed. let e : 3 ≡ 6 = sym is ∙ failed in absurd (omega arith);
}
ends_at plans quota number output given left left2 held holds holds2 states states2 Known part status Refused s read fits f comes (inr (is, wrote)) = record {
  read = s.read ++ part;
  consumed = consumes_more given left left2 s.read part s.consumed read;
  exact = λ fine rest here. absurd (fine is);
  partial = λ failed.
      let all = ap output (sym (append-nil (s.read ++ part))) ∙ goes_on plans quota number output given left held holds states Known s part [] (fits [] (inr refl)) ∙ ap (after s.written) (comes [] (inr refl)) in
      subst (λ o. AppendsPrefix held holds2 o.text) (sym all) (front_behind held holds holds2 s.written (bad_text number) s.appended wrote);
}
ends_at plans quota number output given left left2 held holds holds2 states states2 Known part status (Applied written machines) s read fits f comes (is, wrote) = record {
  read = s.read ++ part;
  consumed = consumes_more given left left2 s.read part s.consumed read;
  exact = λ fine rest here. absurd (fine is);
  partial = λ failed.
      let all = ap output (sym (append-nil (s.read ++ part))) ∙ goes_on plans quota number output given left held holds states Known s part [] (fits [] (inr refl)) ∙ ap (after s.written) (comes [] (inr refl)) in
      subst (λ o. AppendsPrefix held holds2 o.text) (sym all)
      (front_behind held holds holds2 s.written (written ++ (f [] machines).text) s.appended (front_longer holds holds2 written (f [] machines).text wrote));
}

-- where the lines of a text end, however it goes on, after what was read ahead
pub ends_feed : (plans : PlansValue) (quota number : ℕ) (output : List ℕ → Output) (given left left2 held holds holds2 : Option (List ℕ)) (states states2 : List CircuitState) (Known : List ℕ → Type 0) (line ahead : List ℕ) (status : ℕ)
    → SoFar plans quota number output given left held holds states Known → IsLine left (prepend_known ahead left2) line → ((rest : List ℕ) → Known ((line ++ 10 ∷ []) ++ rest))
    → ((machines : ℕ → Alone) → AllRepresent plans quota states machines → HasResult plans quota number (line_result plans quota machines (line_of_text plans.union plans.count line)) states2 holds holds2 (Some status))
    → Ends output given left2 held holds2 status
ends_feed plans quota number output given left left2 held holds holds2 states states2 Known line ahead status s read fits follows =
    ends_at plans quota number output given left left2 held holds holds2 states states2 Known ((line ++ 10 ∷ []) ++ ahead) status (line_result plans quota s.machines (line_of_text plans.union plans.count line)) s
    (consumes_more left (prepend_known ahead left2) left2 (line ++ 10 ∷ []) ahead read.read (all_consumed left2 ahead))
    (λ rest here. subst Known (sym (append_assoc (line ++ 10 ∷ []) ahead rest)) (fits (ahead ++ rest)))
    (λ rest next. lab_from plans quota (number + 1) next (lines_of (ahead ++ rest)))
    (λ rest here.
    ap (λ text. lab_from plans quota number s.machines (lines_of text)) (append_assoc (line ++ 10 ∷ []) ahead rest)
    ∙ line_on plans quota number s.machines line (ahead ++ rest) read.plain)
    (follows s.machines s.represents)

-- a line that is too long
long_on : (plans : PlansValue) (quota number : ℕ) (machines : ℕ → Alone) (front rest : List ℕ) → lacks 10 front ≡ true → 8192 < length front
    → lab_from plans quota number machines (lines_of (front ++ rest)) ≡ record { text = bad_text number; status = 3 }
long_on plans quota number machines [] rest plain long = absurd (omega arith)
long_on plans quota number machines (b ∷ front) rest plain long =
    let begins = line_begins b front rest plain in
    let line = (b ∷ front) ++ begins.more in
    let size = length-append (b ∷ front) begins.more in
    ap (lab_from plans quota number machines) begins.is ∙ one_line plans quota number machines line begins.others
    ∙ ap (λ l. and_then number (line_result plans quota machines l) (λ next. lab_from plans quota (number + 1) next begins.others)) (long_is plans.union plans.count line (omega arith))

ends_long : (plans : PlansValue) (quota number : ℕ) (output : List ℕ → Output) (given left left2 held holds holds2 : Option (List ℕ)) (states : List CircuitState) (Known : List ℕ → Type 0) (ahead : List ℕ) (status : ℕ)
    → SoFar plans quota number output given left held holds states Known → (read : IsLong left (prepend_known ahead left2)) → ((rest : List ℕ) → Known ((read.front ++ ahead) ++ rest)) → IsRefusal number holds holds2 status → Ends output given left2 held holds2 status
ends_long plans quota number output given left left2 held holds holds2 states Known ahead status s read fits wrote =
    ends_at plans quota number output given left left2 held holds holds2 states states Known (read.front ++ ahead) status Refused s
    (consumes_more left (prepend_known ahead left2) left2 read.front ahead read.part.read (all_consumed left2 ahead))
    (λ rest here. fits rest)
    (λ rest next. record { text = []; status = 0 })
    (λ rest here.
    ap (λ text. lab_from plans quota number s.machines (lines_of text)) (append_assoc read.front ahead rest)
    ∙ long_on plans quota number s.machines read.front (ahead ++ rest) read.part.plain read.long)
    wrote

-- nothing is left after the end
none_left : (left : Option (List ℕ)) (rest : List ℕ) → IsAtEnd left → Left left rest → rest ≡ []
none_left None rest end (inl h) = absurd (cc)
none_left (Some xs) rest end (inl h) = sym (same_Some _ _ h) ∙ end
none_left left rest end (inr h) = h

last_on : (plans : PlansValue) (quota number : ℕ) (machines : ℕ → Alone) (line rest : List ℕ) → lacks 10 line ≡ true → (length line ≡ 0 → ⊥) → rest ≡ []
    → lab_from plans quota number machines (lines_of (line ++ rest)) ≡ and_then number (line_result plans quota machines (line_of_text plans.union plans.count line)) (λ next. lab_from plans quota (number + 1) next [])
last_on plans quota number machines [] rest plain some none = absurd (some refl)
last_on plans quota number machines (b ∷ front) rest plain some none =
    ap (λ text. lab_from plans quota number machines (lines_of text)) (ap (λ v. (b ∷ front) ++ v) none ∙ append-nil (b ∷ front))
    ∙ ap (lab_from plans quota number machines) (line_last b front plain)
    ∙ one_line plans quota number machines (b ∷ front) []

-- The run ends at the end of the text, of which all was written.
ends_done : (output : List ℕ → Output) (given left held holds : Option (List ℕ)) (read written : List ℕ) → Consumes given left read → IsAtEnd left → Appends held holds written
    → output (read ++ []) ≡ record { text = written; status = 0 } → Ends output given left held holds 0
ends_done output given left held holds read written consumed end wrote all = record {
  read = read;
  consumed = consumed;
  exact = λ fine rest here.
      let so = ap (λ v. output (read ++ v)) (none_left left rest end (inl here)) ∙ all in
      (subst (λ o. Appends held holds o.text) (sym so) wrote, sym (ap (λ o. o.status) so));
  partial = λ failed. let e : 0 ≡ 6 = failed in absurd (omega arith);
}

last_done : (plans : PlansValue) (quota number : ℕ) (output : List ℕ → Output) (given left left2 held holds holds2 : Option (List ℕ)) (states states2 : List CircuitState) (Known : List ℕ → Type 0) (line : List ℕ) (t : LineResult)
    → (s : SoFar plans quota number output given left held holds states Known) → IsLast left left2 line → Known line → (length line ≡ 0 → ⊥) → line_result plans quota s.machines (line_of_text plans.union plans.count line) ≡ t
    → HasResult plans quota number t states2 holds holds2 None → Ends output given left2 held holds2 0
last_done plans quota number output given left left2 held holds holds2 states states2 Known line Refused s read fits some is follows = absurd follows
last_done plans quota number output given left left2 held holds holds2 states states2 Known line (Applied written machines) s read fits some is follows =
    ends_done output given left2 held holds2 (s.read ++ line) (s.written ++ written) (consumes_more given left left2 s.read line s.consumed read.part.read) read.end
    (appends_more held holds holds2 s.written written s.appended follows.appended)
    (goes_on plans quota number output given left held holds states Known s line [] (subst Known (sym (append-nil line)) fits)
    ∙ ap (after s.written) (last_on plans quota number s.machines line [] read.part.plain some refl
    ∙ ap (λ t. and_then number t (λ next. lab_from plans quota (number + 1) next [])) is
    ∙ ap (after written) (none_written plans quota (number + 1) machines)
    ∙ ap (λ text. record { text = text; status = 0 }) (append-nil written)))

-- no line is left
ends_none : (plans : PlansValue) (quota number : ℕ) (output : List ℕ → Output) (given left left2 held holds : Option (List ℕ)) (states : List CircuitState) (Known : List ℕ → Type 0)
    → SoFar plans quota number output given left held holds states Known → IsLast left left2 [] → Known [] → Ends output given left2 held holds 0
ends_none plans quota number output given left left2 held holds states Known s read fits =
    ends_done output given left2 held holds (s.read ++ []) s.written (consumes_more given left left2 s.read [] s.consumed read.part.read) read.end s.appended
    (goes_on plans quota number output given left held holds states Known s [] [] fits
    ∙ ap (after s.written) (ap (lab_from plans quota number s.machines) no_lines ∙ none_written plans quota number s.machines)
    ∙ ap (λ text. record { text = text; status = 0 }) (append-nil s.written))

-- The last line, which lacks its line feed, and which may be empty.
last_empty : (plans : PlansValue) (quota number : ℕ) (output : List ℕ → Output) (given left left2 held holds holds2 : Option (List ℕ)) (states : List CircuitState) (Known : List ℕ → Type 0) (line : List ℕ) (status : ℕ)
    → SoFar plans quota number output given left held holds states Known → IsLast left left2 line → Known line → length line ≡ 0 → status ≡ 0 → holds2 ≡ holds → Ends output given left2 held holds2 status
last_empty plans quota number output given left left2 held holds holds2 states Known [] status s read fits none is kept =
    subst (λ n. Ends output given left2 held holds2 n) (sym is)
    (subst (λ h. Ends output given left2 held h 0) (sym kept) (ends_none plans quota number output given left left2 held holds states Known s read fits))
last_empty plans quota number output given left left2 held holds holds2 states Known (b ∷ line) status s read fits none is kept = absurd (omega arith)

last_ended : (plans : PlansValue) (quota number : ℕ) (output : List ℕ → Output) (given left left2 held holds holds2 : Option (List ℕ)) (states states2 : List CircuitState) (Known : List ℕ → Type 0) (line : List ℕ) (status : ℕ)
    → (s : SoFar plans quota number output given left held holds states Known) → IsLast left left2 line → Known line
    → HasLastResult plans quota number line (line_result plans quota s.machines (line_of_text plans.union plans.count line)) states2 holds holds2 status
    → Ends output given left2 held holds2 status
last_ended plans quota number output given left left2 held holds holds2 states states2 Known line status s read fits (inl (none, is, kept)) =
    last_empty plans quota number output given left left2 held holds holds2 states Known line status s read fits none is kept
last_ended plans quota number output given left left2 held holds holds2 states states2 Known line status s read fits (inr (some, inl (is, follows))) =
    subst (λ n. Ends output given left2 held holds2 n) (sym is)
    (last_done plans quota number output given left left2 held holds holds2 states states2 Known line (line_result plans quota s.machines (line_of_text plans.union plans.count line)) s read fits some refl follows)
last_ended plans quota number output given left left2 held holds holds2 states states2 Known line status s read fits (inr (some, inr follows)) =
    ends_at plans quota number output given left left2 held holds holds2 states states2 Known line status (line_result plans quota s.machines (line_of_text plans.union plans.count line)) s read.part.read
    (λ rest here. subst Known (sym (ap (λ v. line ++ v) (none_left left2 rest read.end here) ∙ append-nil line)) fits)
    (λ rest next. lab_from plans quota (number + 1) next [])
    (λ rest here. last_on plans quota number s.machines line rest read.part.plain some (none_left left2 rest read.end here)) follows

pub ends_last : (plans : PlansValue) (quota number : ℕ) (output : List ℕ → Output) (given left left2 held holds holds2 : Option (List ℕ)) (states states2 : List CircuitState) (Known : List ℕ → Type 0) (line : List ℕ) (status : ℕ)
    → SoFar plans quota number output given left held holds states Known → IsLast left left2 line → Known line
    → ((machines : ℕ → Alone) → AllRepresent plans quota states machines → HasLastResult plans quota number line (line_result plans quota machines (line_of_text plans.union plans.count line)) states2 holds holds2 status)
    → Ends output given left2 held holds2 status
ends_last plans quota number output given left left2 held holds holds2 states states2 Known line status s read fits follows =
    last_ended plans quota number output given left left2 held holds holds2 states states2 Known line status s read fits (follows s.machines s.represents)

-- the reader failed
pub ends_cut : (plans : PlansValue) (quota number : ℕ) (output : List ℕ → Output) (given left left2 held holds : Option (List ℕ)) (states : List CircuitState) (Known : List ℕ → Type 0)
    → SoFar plans quota number output given left held holds states Known → (cut : IsCut left left2) → Known cut.front → Ends output given left2 held holds 6
ends_cut plans quota number output given left left2 held holds states Known s cut fits = record {
  read = s.read ++ cut.front;
  consumed = consumes_more given left left2 s.read cut.front s.consumed cut.read;
  exact = λ fine rest here. absurd (fine refl);
  partial = λ failed. record {
    front = s.written;
    rest = (lab_from plans quota number s.machines (lines_of cut.front)).text;
    parted = ap (λ o. o.text) (s.whole cut.front fits);
    appended = s.appended;
  };
}

-- the output for a known text
ended_known : (output : List ℕ → Output) (text read : List ℕ) (left held holds : Option (List ℕ)) (status : ℕ) → Consumes (Some text) left read
    → ((rest : List ℕ) → left ≡ Some rest → Appends held holds (output (read ++ rest)).text × (status ≡ (output (read ++ rest)).status))
    → Appends held holds (output text).text × (status ≡ (output text).status)
ended_known output text read None held holds status consumed exact = absurd consumed
ended_known output text read (Some rest) held holds status consumed exact =
    subst (λ v. Appends held holds (output v).text × (status ≡ (output v).status)) (sym consumed) (exact rest refl)

pub ended_written : (output : List ℕ → Output) (text : List ℕ) (given left held holds : Option (List ℕ)) (status : ℕ) → Ends output given left held holds status → given ≡ Some text → (status ≡ 6 → ⊥)
    → Appends held holds (output text).text × (status ≡ (output text).status)
ended_written output text given left held holds status ends is fine =
    ended_known output text ends.read left held holds status (subst (λ g. Consumes g left ends.read) is ends.consumed) (ends.exact fine)

-- the line that is held is too long
pub ends_too_long : (plans : PlansValue) (quota number : ℕ) (output : List ℕ → Output) (given left held holds holds2 : Option (List ℕ)) (states : List CircuitState) (bytes : List ℕ) (status : ℕ)
    → SoFar plans quota number output given (prepend_known bytes left) held holds states (Fits bytes TooLong) → HoldsLong bytes → IsRefusal number holds holds2 status → Ends output given left held holds2 status
ends_too_long plans quota number output given left held holds holds2 states bytes status s h wrote =
    ends_long plans quota number output given (prepend_known bytes left) left held holds holds2 states (Fits bytes TooLong) (drop h.size bytes) status s
    (record {
      front = take h.size bytes;
      long = let e = length-take-le h.size bytes h.within in let f = h.long in omega arith;
      part = record { plain = h.plain; read = held_consumed left bytes (take h.size bytes) (drop h.size bytes) (sym (take-append-drop h.size bytes)) };
    })
    (λ rest. (rest, ap (λ v. v ++ rest) (take-append-drop h.size bytes))) wrote

-- the last line that is held is the rest of the text
pub fits_last : (held text : List ℕ) (left : Option (List ℕ)) (len : ℕ) → text ≡ held → HoldsLast held left len → Fits held (EndOfInput len) (take len text)
fits_last held text left len is h = ap (take len) is ∙ take_all len held (let e = h.size in omega arith)
