-- The loops over the parts of a batch: one part further on.
use Rattle.std.proofs.Common.{◌≡◌, ℕ, zero, suc, ◌+◌, ◌<◌, ◌≤◌, Bool, true, false, eqb, ltb, List, [], ◌∷◌, ◌++◌, drop, get_or, length, length-append, set, refl, sym, ap, subst, ◌∙◌, arith}
use Rattle.std.proofs.Math.Seq.{drop-nil}
use Rattle.std.specs.Prelude.{◌==◌, if◌then◌else◌, Option, Some, None, IfSome, Result, slice_get}
use Rattle.std.specs.List.{cons_option}
use Rattle.std.proofs.lemmas.Bool.{eqb-true, eqb-false, ltb-false}
use borrow.Author.Tests.{ltb-true}
use Rattle.std.proofs.lemmas.Option.{get_or_from_slice_get, same_Some}
use Rattle.types.specs.declared.discard.Discard.{Discard}
use Rattle.lossy_net.specs.Net.{Datagram}
use Rattle.events.specs.declared.batch.PartOutcome.{PartOutcome}
use Rattle.world.specs.Batch.{answer_outcome, downs_after, faults_after, outcome_for, with_answer}
use Rattle.world.specs.declared.world.batch.Waiting.{Waiting}
use Rattle.world.proofs.StateLemmas.{get_set, get_set_other}

-- ---- options and lists

not_last : (n i : ℕ) → i < n + 1 → (n ≡ i → ⊥) → i < n
not_last n i less apart = by (ltb i n) refl where
  by : (b : Bool) → ltb i n ≡ b → i < n
  by true is = ltb-true i n is
  by false is = let past = ltb-false i n is in absurd (apart (omega (arith, less, past)))

pub added_length : {X : Type 0} (xs : List X) (more : Option X) → length (xs ++ cons_option more []) ≤ length xs + 1
added_length xs None = omega (arith, length-append xs [])
added_length xs (Some x) = omega (arith, length-append xs (x ∷ []))

pub each_added : {X : Type 0} (P : X → Type 0) (xs : List X) (more : Option X) → ((j : ℕ) (x : X) → slice_get xs j ≡ Some x → P x) → IfSome more P
    → (j : ℕ) (x : X) → slice_get (xs ++ cons_option more []) j ≡ Some x → P x
each_added P [] None all one j x at = absurd cc
each_added P [] (Some y) all one zero x at = subst P (same_Some y x at) one
each_added P [] (Some y) all one (suc j) x at = absurd cc
each_added P (y ∷ xs) more all one zero x at = all zero x at
each_added P (y ∷ xs) more all one (suc j) x at = each_added P xs more (λ j x at. all (suc j) x at) one j x at

pub done_set : {X Y : Type 0} (f : X → Y) (xs : List X) (ys : List Y) (n : ℕ) (d : X) → n < length ys
    → ((i : ℕ) (x : X) → slice_get xs i ≡ Some x → i < n → slice_get ys i ≡ Some (f x))
    → (i : ℕ) (x : X) → slice_get xs i ≡ Some x → i < n + 1 → slice_get (set ys n (f (get_or xs n d))) i ≡ Some (f x)
done_set f xs ys n d within before i x there less = by (eqb n i) refl where
  by : (b : Bool) → eqb n i ≡ b → slice_get (set ys n (f (get_or xs n d))) i ≡ Some (f x)
  by true same =
      let is = eqb-true n i same in
      let its : get_or xs n d ≡ x = ap (λ k. get_or xs k d) is ∙ get_or_from_slice_get xs i x d there in
      ap (slice_get (set ys n (f (get_or xs n d)))) (sym is) ∙ get_set ys n (f (get_or xs n d)) within ∙ ap (λ y. Some (f y)) its
  by false other =
      let apart = eqb-false n i other in
      get_set_other ys n i (f (get_or xs n d)) apart ∙ before i x there (not_last n i less apart)

-- ---- what comes of the parts

same_either : {X : Type 0} (b : Bool) (x : X) → x ≡ (if b then x else x)
same_either true x = refl
same_either false x = refl

no_answers : (quota : ℕ) (ws : List Waiting) (c : ℕ) (downs : List Datagram) → downs_after quota ws [] c downs ≡ downs
no_answers quota [] c downs = refl
no_answers quota (w ∷ ws) c downs = refl

no_outcomes : (c : ℕ) (ws : List Waiting) → outcome_for c ws [] ≡ answer_outcome None
no_outcomes c [] = refl
no_outcomes c (w ∷ ws) = refl

suc_is : (i : ℕ) → suc i ≡ i + 1
suc_is i = omega arith

module _ (quota c : ℕ) (d : Waiting) where
  -- the list towards the relay, with what one part adds
  abbrev with_one : List Waiting → List (Result (List ℕ) Discard) → ℕ → List Datagram → List Datagram
  with_one ws answers i downs = if (get_or ws i d).circuit == c then with_answer quota (get_or ws i d).proto (slice_get answers i) downs else downs

  abbrev rest : List Waiting → List (Result (List ℕ) Discard) → ℕ → List Datagram → List Datagram
  rest ws answers i downs = downs_after quota (drop i ws) (drop i answers) c downs

  unanswered : (ws : List Waiting) (i : ℕ) (downs : List Datagram) → rest ws [] i downs ≡ downs
  unanswered ws i downs = ap (λ answers. downs_after quota (drop i ws) answers c downs) (drop-nil i) ∙ no_answers quota (drop i ws) c downs

  further : (ws : List Waiting) (answers : List (Result (List ℕ) Discard)) (i : ℕ) (downs : List Datagram) → i < length ws → rest ws answers i downs ≡ rest ws answers (suc i) (with_one ws answers i downs)
  further [] answers i downs within = absurd (omega (arith, within))
  further (w ∷ ws) [] i downs within = unanswered (w ∷ ws) i downs ∙ same_either ((get_or (w ∷ ws) i d).circuit == c) downs ∙ sym (unanswered (w ∷ ws) (suc i) (with_one (w ∷ ws) [] i downs))
  further (w ∷ ws) (a ∷ answers) zero downs within = refl
  further (w ∷ ws) (a ∷ answers) (suc i) downs within = further ws answers i downs (omega (arith, within))

  pub downs_step : (ws : List Waiting) (answers : List (Result (List ℕ) Discard)) (i : ℕ) (downs : List Datagram) → i < length ws
      → downs_after quota (drop i ws) (drop i answers) c downs
      ≡ downs_after quota (drop (i + 1) ws) (drop (i + 1) answers) c
      (if (get_or ws i d).circuit == c then with_answer quota (get_or ws i d).proto (slice_get answers i) downs else downs)
  downs_step ws answers i downs within = further ws answers i downs within ∙ ap (λ n. rest ws answers n (with_one ws answers i downs)) (suc_is i)

module _ (c : ℕ) (d : Waiting) where
  abbrev rest_of : List Waiting → List (Result (List ℕ) Discard) → ℕ → PartOutcome
  rest_of ws answers i = outcome_for c (drop i ws) (drop i answers)

  not_answered : (ws : List Waiting) (i : ℕ) → rest_of ws [] i ≡ answer_outcome None
  not_answered ws i = ap (λ answers. outcome_for c (drop i ws) answers) (drop-nil i) ∙ no_outcomes c (drop i ws)

  on_from : (ws : List Waiting) (answers : List (Result (List ℕ) Discard)) (i : ℕ) → i < length ws
      → rest_of ws answers i ≡ (if (get_or ws i d).circuit == c then answer_outcome (slice_get answers i) else rest_of ws answers (suc i))
  on_from [] answers i within = absurd (omega (arith, within))
  on_from (w ∷ ws) [] i within =
      let b = (get_or (w ∷ ws) i d).circuit == c in
      not_answered (w ∷ ws) i ∙ same_either b (answer_outcome None) ∙ ap (λ o. if b then answer_outcome None else o) (sym (not_answered (w ∷ ws) (suc i)))
  on_from (w ∷ ws) (a ∷ answers) zero within = refl
  on_from (w ∷ ws) (a ∷ answers) (suc i) within = on_from ws answers i (omega (arith, within))

  pub outcome_step : (ws : List Waiting) (answers : List (Result (List ℕ) Discard)) (i : ℕ) → i < length ws
      → outcome_for c (drop i ws) (drop i answers)
      ≡ (if (get_or ws i d).circuit == c then answer_outcome (slice_get answers i) else outcome_for c (drop (i + 1) ws) (drop (i + 1) answers))
  outcome_step ws answers i within =
      on_from ws answers i within
      ∙ ap (λ n. if (get_or ws i d).circuit == c then answer_outcome (slice_get answers i) else rest_of ws answers n) (suc_is i)

-- ---- the faults of the device

abbrev pub with_fault : Bool → Waiting → (ℕ → ℕ) → ℕ → ℕ
with_fault fails w faults = λ r. if r == w.region then (if fails then w.fault else 0) else faults r

next_fault : (fails : Bool) (ws : List Waiting) (i : ℕ) (d : Waiting) (faults : ℕ → ℕ) → i < length ws
    → faults_after fails (drop i ws) faults ≡ faults_after fails (drop (suc i) ws) (with_fault fails (get_or ws i d) faults)
next_fault fails [] i d faults within = absurd (omega (arith, within))
next_fault fails (w ∷ ws) zero d faults within = refl
next_fault fails (w ∷ ws) (suc i) d faults within = next_fault fails ws i d faults (omega (arith, within))

pub faults_step : (fails : Bool) (ws : List Waiting) (i : ℕ) (d : Waiting) (faults : ℕ → ℕ) → i < length ws
    → faults_after fails (drop i ws) faults ≡ faults_after fails (drop (i + 1) ws) (with_fault fails (get_or ws i d) faults)
faults_step fails ws i d faults within = next_fault fails ws i d faults within ∙ ap (λ n. faults_after fails (drop n ws) (with_fault fails (get_or ws i d) faults)) (suc_is i)

pub fault_is_set : (fails : Bool) (w : Waiting) (old new : ℕ → ℕ) → new w.region ≡ (if fails then w.fault else 0) → ((r : ℕ) → (r ≡ w.region → ⊥) → new r ≡ old r) → new ≡ with_fault fails w old
fault_is_set fails w old new own others = λ i r. by r (eqb r w.region) refl i where
  by : (r : ℕ) (b : Bool) → eqb r w.region ≡ b → new r ≡ (if b then (if fails then w.fault else 0) else old r)
  by r true same = ap new (eqb-true r w.region same) ∙ own
  by r false other = others r (eqb-false r w.region other)
