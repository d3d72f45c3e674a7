-- The fields of a restart, one more at a time.
use Rattle.std.proofs.Common.{◌≡◌, ℕ, ◌<◌, Bool, true, false, cond, eqb, eqb-true, eq-eqb, List, [], ◌∷◌, length, refl, ap, sym, subst, ◌∙◌, arith}
use Rattle.std.specs.Prelude.{Some, None, ◌||◌, slice_set, slice_index_or}
use Rattle.std.proofs.lemmas.List.{get_or-set_same, get_or-set_other}
use Rattle.settings.specs.Settings.{Settings}
use Rattle.events.specs.declared.comeback.Comeback.{Comeback}
use Rattle.events.specs.Seen.{comeback_at}
use Rattle.lab_text.specs.Fields.{named_comeback, is_named, comeback_in, synced_at}
use Rattle.lab_text.specs.Line.{Line, Bad, Restart, ◌>>=◌, restart_line}
use Rattle.lab_text.specs.ParsedLine.{IsRestart}

-- what the fields so far name, and what is left of them
pub record NamedSoFar (settings : Settings) (all left : List (List ℕ)) (marks : List Bool) (comebacks : List Comeback) : Type 0 where
  pub named : List (ℕ × Comeback)
  pub line : restart_line settings named left ≡ restart_line settings [] all
  pub marked : (c : ℕ) → slice_index_or marks c false ≡ is_named c named
  pub each : (c : ℕ) → comeback_at c comebacks ≡ comeback_in c named

none_named : (c : ℕ) → is_named c [] ≡ false
unfolding is_named
none_named c = refl

no_comeback : (c : ℕ) → comeback_in c [] ≡ synced_at 0 0
unfolding comeback_in
no_comeback c = refl

pub named_none : (settings : Settings) (all : List (List ℕ)) (marks : List Bool) (comebacks : List Comeback) → ((c : ℕ) → slice_index_or marks c false ≡ false) → ((c : ℕ) → comeback_at c comebacks ≡ synced_at 0 0)
    → NamedSoFar settings all all marks comebacks
named_none settings all marks comebacks no_mark zero = record {
  named = [];
  line = refl;
  marked = λ c. no_mark c ∙ sym (none_named c);
  each = λ c. zero c ∙ sym (no_comeback c);
}

no_field : (settings : Settings) (named : List (ℕ × Comeback)) → restart_line settings named [] ≡ Restart named
unfolding restart_line
no_field settings named = refl

abbrev with_next : Settings → List (ℕ × Comeback) → List (List ℕ) → ℕ × Comeback → Line
with_next settings named left next = cond (is_named next.0 named) Bad (restart_line settings (next ∷ named) left)

one_field : (settings : Settings) (named : List (ℕ × Comeback)) (field : List ℕ) (left : List (List ℕ)) → restart_line settings named (field ∷ left) ≡ (named_comeback settings field >>= with_next settings named left)
unfolding restart_line
one_field settings named field left = refl

-- all fields are good
pub all_named : (settings : Settings) (all left : List (List ℕ)) (marks : List Bool) (comebacks : List Comeback) → left ≡ [] → NamedSoFar settings all left marks comebacks → IsRestart comebacks (restart_line settings [] all)
all_named settings all left marks comebacks end h = record {
  named = h.named;
  is = sym h.line ∙ ap (restart_line settings h.named) end ∙ no_field settings h.named;
  each = h.each;
}

-- a field names nothing
pub names_nothing : (settings : Settings) (all left : List (List ℕ)) (field : List ℕ) (marks : List Bool) (comebacks : List Comeback) → None ≡ named_comeback settings field
    → NamedSoFar settings all (field ∷ left) marks comebacks → restart_line settings [] all ≡ Bad
names_nothing settings all left field marks comebacks none h =
    sym h.line ∙ one_field settings h.named field left ∙ ap (λ o. o >>= with_next settings h.named left) (sym none)

-- a field names a circuit once more
pub names_again : (settings : Settings) (all left : List (List ℕ)) (field : List ℕ) (marks : List Bool) (comebacks : List Comeback) (next : ℕ × Comeback) → Some next ≡ named_comeback settings field
    → slice_index_or marks next.0 false ≡ true → NamedSoFar settings all (field ∷ left) marks comebacks → restart_line settings [] all ≡ Bad
names_again settings all left field marks comebacks next is again h =
    sym h.line ∙ one_field settings h.named field left ∙ ap (λ o. o >>= with_next settings h.named left) (sym is)
    ∙ ap (λ t. cond t Bad (restart_line settings (next ∷ h.named) left)) (sym (h.marked next.0) ∙ again)

-- a field names a circuit
marked_at : (c d : ℕ) (comeback : Comeback) (marks : List Bool) (named : List (ℕ × Comeback)) (t : Bool) → eqb c d ≡ t → c < length marks → slice_index_or marks d false ≡ is_named d named
    → slice_index_or (slice_set marks c true) d false ≡ (t || is_named d named)
marked_at c d comeback marks named true e inside h =
    subst (λ i. slice_index_or (slice_set marks c true) i false ≡ true) (eqb-true c d e) (get_or-set_same marks c true false inside)
marked_at c d comeback marks named false e inside h =
    get_or-set_other marks c d true false (λ (is : d ≡ c). let f : true ≡ false = sym (eq-eqb c d (sym is)) ∙ e in absurd (cc)) ∙ h

marked_next : (d : ℕ) (next : ℕ × Comeback) (named : List (ℕ × Comeback)) → is_named d (next ∷ named) ≡ (eqb next.0 d || is_named d named)
unfolding is_named
marked_next d next named = refl

comeback_of_at : (c d : ℕ) (comeback : Comeback) (comebacks : List Comeback) (named : List (ℕ × Comeback)) (t : Bool) → eqb c d ≡ t → c < length comebacks → comeback_at d comebacks ≡ comeback_in d named
    → comeback_at d (slice_set comebacks c comeback) ≡ cond t comeback (comeback_in d named)
comeback_of_at c d comeback comebacks named true e inside h =
    subst (λ i. comeback_at i (slice_set comebacks c comeback) ≡ comeback) (eqb-true c d e) (get_or-set_same comebacks c comeback (synced_at 0 0) inside)
comeback_of_at c d comeback comebacks named false e inside h =
    get_or-set_other comebacks c d comeback (synced_at 0 0) (λ (is : d ≡ c). let f : true ≡ false = sym (eq-eqb c d (sym is)) ∙ e in absurd (cc)) ∙ h

comeback_next : (d : ℕ) (next : ℕ × Comeback) (named : List (ℕ × Comeback)) → comeback_in d (next ∷ named) ≡ cond (eqb next.0 d) next.1 (comeback_in d named)
unfolding comeback_in
comeback_next d next named = refl

pub names_one : (settings : Settings) (all left : List (List ℕ)) (field : List ℕ) (marks : List Bool) (comebacks : List Comeback) (next : ℕ × Comeback) → Some next ≡ named_comeback settings field
    → slice_index_or marks next.0 false ≡ false → next.0 < length marks → next.0 < length comebacks → NamedSoFar settings all (field ∷ left) marks comebacks
    → NamedSoFar settings all left (slice_set marks next.0 true) (slice_set comebacks next.0 next.1)
names_one settings all left field marks comebacks next is new inside within h = record {
  named = next ∷ h.named;
  line =
      sym (one_field settings h.named field left ∙ ap (λ o. o >>= with_next settings h.named left) (sym is)
      ∙ ap (λ t. cond t Bad (restart_line settings (next ∷ h.named) left)) (sym (h.marked next.0) ∙ new))
      ∙ h.line;
  marked = λ d. marked_at next.0 d next.1 marks h.named (eqb next.0 d) refl inside (h.marked d) ∙ sym (marked_next d next h.named);
  each = λ d. comeback_of_at next.0 d next.1 comebacks h.named (eqb next.0 d) refl within (h.each d) ∙ sym (comeback_next d next h.named);
}

-- the same, with the circuit's index
pub names_at : (settings : Settings) (all left : List (List ℕ)) (field : List ℕ) (marks : List Bool) (comebacks : List Comeback) (next : ℕ × Comeback) (i : ℕ) → i ≡ next.0 → Some next ≡ named_comeback settings field
    → slice_index_or marks i false ≡ false → i < length marks → i < length comebacks → NamedSoFar settings all (field ∷ left) marks comebacks
    → NamedSoFar settings all left (slice_set marks i true) (slice_set comebacks i next.1)
names_at settings all left field marks comebacks next i at is new inside within h =
    subst (λ n. NamedSoFar settings all left (slice_set marks n true) (slice_set comebacks n next.1)) (sym at)
    (names_one settings all left field marks comebacks next is (ap (λ n. slice_index_or marks n false) (sym at) ∙ new) (omega (arith, at)) (omega (arith, at)) h)
