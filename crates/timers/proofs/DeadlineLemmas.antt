-- The deadlines that numbers show, and what a sweep leaves of them.
use Rattle.std.proofs.Common.{◌≡◌, ℕ, zero, suc, ◌+◌, ◌<◌, ◌≤◌, Bool, true, false, cond, Option, Some, None, List, [], ◌∷◌, map, length, get_or, set, replicate, count_by, ap, ap₂, sym, subst, refl, ◌∙◌, arith, inl, inr}
use Rattle.std.specs.Prelude.{IfNone, nat_le, nat_lt}
use Rattle.std.proofs.lemmas.Bool.{cases_lt, cond-true, cond-false}
use Rattle.std.proofs.lemmas.Bool.Decides.{nat_tests}
use Rattle.std.proofs.lemmas.List.{map-set, get_or-map, get_or_past, set-get_or, length-map}
use Rattle.std.proofs.lemmas.List.Sums.{sum_by-cons, sum_by-set}
use Rattle.types.specs.Slots.{last_until}
use Rattle.timers.specs.Deadlines.{DeadlinesValue, deadline, is_due, entry_after_sweep}
use Rattle.timers.specs.Layout.{entry_of}
use Rattle.timers.specs.declared.deadlines.TheConstants.{NEVER}

-- ---- one entry

pub entry_of_until : (until : ℕ) → until ≤ last_until → entry_of until ≡ Some until
entry_of_until until within = cond-true (nat_lt until NEVER) (Some until) None (grind (arith, nat_tests))

entry_of_never : (number : ℕ) → NEVER ≤ number → entry_of number ≡ None
entry_of_never number never = cond-false (nat_lt number NEVER) (Some number) None (grind (arith, nat_tests))

entry_of_number : (number : ℕ) → number < NEVER → entry_of number ≡ Some number
entry_of_number number below = cond-true (nat_lt number NEVER) (Some number) None (grind (arith, nat_tests))

until_of_entry : (number until : ℕ) → entry_of number ≡ Some until → number ≡ until
until_of_entry number until entry = elim (cases_lt number NEVER) [
  | inl below ↦ let some = entry_of_number number below in cc
  | inr never ↦ let none = entry_of_never number never in cc
]

-- ---- the deadlines that numbers show

-- the table that is shown, as `view` has it
abbrev pub shown : List ℕ → ℕ → DeadlinesValue
shown numbers examined = record { slots = map entry_of numbers; examined = examined }

pub shown-set : (numbers written : List ℕ) (examined slot number : ℕ) (entry : Option ℕ) (old : DeadlinesValue)
    → shown numbers examined ≡ old → written ≡ set numbers slot number → entry_of number ≡ entry
    → shown written examined ≡ record { slots = set old.slots slot entry; examined = old.examined }
shown-set numbers written examined slot number entry old view write same =
    let P : DeadlinesValue → Type 0 = λ o. shown written examined ≡ record { slots = set o.slots slot entry; examined = o.examined } in
    let slots : map entry_of written ≡ set (map entry_of numbers) slot entry =
    ap (map entry_of) write ∙ map-set entry_of numbers slot number ∙ ap (set (map entry_of numbers) slot) same in
    let made : List (Option ℕ) → DeadlinesValue = λ s. record { slots = s; examined = examined } in
    subst P view (ap made slots)

none_at_first : (count : ℕ) → map entry_of (replicate count NEVER) ≡ replicate count None
none_at_first zero = refl
none_at_first (suc count) = ap (λ (rest : List (Option ℕ)). None ∷ rest) (none_at_first count)

pub shown_at_first : (numbers : List ℕ) (examined count : ℕ) → numbers ≡ replicate count NEVER → examined ≡ 0 → shown numbers examined ≡ record { slots = replicate count None; examined = 0 }
shown_at_first numbers examined count all none =
    let made : List (Option ℕ) → ℕ → DeadlinesValue = λ s n. record { slots = s; examined = n } in
    ap₂ made (ap (map entry_of) all ∙ none_at_first count) none

entry_there : (numbers : List ℕ) (slot : ℕ) → slot < length numbers → get_or (map entry_of numbers) slot None ≡ entry_of (get_or numbers slot 0)
entry_there numbers slot low = get_or-map entry_of numbers slot 0 None low

entry_past : (numbers : List ℕ) (slot : ℕ) → length numbers ≤ slot → get_or (map entry_of numbers) slot None ≡ None
entry_past numbers slot past = get_or_past (map entry_of numbers) slot None (let count = length-map numbers entry_of in omega arith)

-- `table` is what numbers show
module _ (numbers : List ℕ) (examined : ℕ) (table : DeadlinesValue) (view : shown numbers examined ≡ table) where
  entry_is : (slot : ℕ) → get_or (map entry_of numbers) slot None ≡ deadline table slot
  entry_is slot = ap (λ t. deadline t slot) view

  -- a deadline is one of the numbers
  pub deadline_among : (slot until : ℕ) → deadline table slot ≡ Some until → (slot < length numbers) × (get_or numbers slot 0 ≡ until)
  deadline_among slot until has = elim (cases_lt slot (length numbers)) [
    | inl low ↦ (low, until_of_entry (get_or numbers slot 0) until (sym (entry_there numbers slot low) ∙ entry_is slot ∙ has))
    | inr past ↦ let none = entry_past numbers slot past in let same = entry_is slot in cc
  ]

  pub none_among : ((k : ℕ) → k < length numbers → NEVER ≤ get_or numbers k 0) → (slot : ℕ) → deadline table slot ≡ None
  none_among never slot = sym (entry_is slot) ∙ elim (cases_lt slot (length numbers)) [
    | inl low ↦ entry_there numbers slot low ∙ entry_of_never (get_or numbers slot 0) (never slot low)
    | inr past ↦ entry_past numbers slot past
  ]

  pub some_among : (slot : ℕ) → slot < length numbers → get_or numbers slot 0 < NEVER → ((s : ℕ) → deadline table s ≡ None) → ⊥
  some_among slot low below none =
      let there = entry_there numbers slot low in
      let some = entry_of_number (get_or numbers slot 0) below in
      let same = entry_is slot in
      let gone = none slot in
      cc

  pub none_due_among : {A : Type 0} (now seconds : ℕ) (found : Option A) → seconds ≡ now
      → IfNone found ((k : ℕ) → k < length numbers → seconds + 1 ≤ get_or numbers k 0)
      → IfNone found ((slot until : ℕ) → deadline table slot ≡ Some until → now < until)
  none_due_among now seconds None same above = λ slot until has.
      let there = deadline_among slot until has in
      omega (arith, same, there.1, above slot there.0)
  none_due_among now seconds (Some found) same above = tt

-- ---- a sweep

not_due : (now until : ℕ) → now < until → is_due now (Some until) ≡ false
not_due now until later = grind (arith, nat_tests)

due : (now until : ℕ) → until ≤ now → is_due now (Some until) ≡ true
due now until past = grind (arith, nat_tests)

left_of_due : (now until : ℕ) → until ≤ now → entry_after_sweep now (Some until) ≡ None
left_of_due now until past = cond-true (nat_le until now) None (Some until) (due now until past)

-- 1 for an entry that is due
abbrev due_count : ℕ → Option ℕ → ℕ
due_count now entry = cond (is_due now entry) 1 0

due_count_of : (now : ℕ) (entry : Option ℕ) (b : Bool) → is_due now entry ≡ b → due_count now entry ≡ cond b 1 0
due_count_of now entry b is = let count : Bool → ℕ = λ t. cond t 1 0 in ap count is

-- entries of which none is due
none_due : (now : ℕ) (slots : List (Option ℕ)) → ((slot until : ℕ) → get_or slots slot None ≡ Some until → now < until)
    → (map (entry_after_sweep now) slots ≡ slots) × (count_by (is_due now) slots ≡ 0)
none_due now [] later = (refl, refl)
none_due now (None ∷ slots) later =
    let rest = none_due now slots (λ slot until has. later (suc slot) until has) in
    (ap (λ (s : List (Option ℕ)). None ∷ s) rest.0, rest.1)
none_due now (Some until ∷ slots) later =
    let rest = none_due now slots (λ slot until has. later (suc slot) until has) in
    let stays = not_due now until (later 0 until refl) in
    let entry : entry_after_sweep now (Some until) ≡ Some until = cond-false (nat_le until now) None (Some until) stays in
    let counted : due_count now (Some until) ≡ 0 = due_count_of now (Some until) false stays in
    (ap₂ (λ (x : Option ℕ) s. x ∷ s) entry rest.0, omega (arith, sum_by-cons (due_count now) (Some until) slots, counted, rest.1))

-- entries from which one was removed that is due
one_less : (now slot until : ℕ) (slots : List (Option ℕ)) → get_or slots slot None ≡ Some until → slot < length slots → until ≤ now
    → (map (entry_after_sweep now) (set slots slot None) ≡ map (entry_after_sweep now) slots) × (count_by (is_due now) (set slots slot None) + 1 ≡ count_by (is_due now) slots)
one_less now slot until slots has low past =
    let gone : None ≡ get_or (map (entry_after_sweep now) slots) slot None =
    sym (get_or-map (entry_after_sweep now) slots slot None None low ∙ ap (entry_after_sweep now) has ∙ left_of_due now until past) in
    let same : map (entry_after_sweep now) (set slots slot None) ≡ map (entry_after_sweep now) slots =
    map-set (entry_after_sweep now) slots slot None
    ∙ ap (set (map (entry_after_sweep now) slots) slot) gone
    ∙ set-get_or (map (entry_after_sweep now) slots) slot None in
    let one : due_count now (get_or slots slot None) ≡ 1 = ap (due_count now) has ∙ due_count_of now (Some until) true (due now until past) in
    (same, omega (arith, sum_by-set (due_count now) slots slot None None low, one))

-- a sweep has come from one table to another: it will leave the same, and each look so far removed an entry
pub record HasSwept (now : ℕ) (old reached : DeadlinesValue) : Type 0 where
  pub left : map (entry_after_sweep now) reached.slots ≡ map (entry_after_sweep now) old.slots
  pub examined : reached.examined + count_by (is_due now) reached.slots ≡ old.examined + count_by (is_due now) old.slots

-- a look changes no entry
pub record IsLook (old looked : DeadlinesValue) : Type 0 where
  pub slots : looked.slots ≡ old.slots
  pub examined : looked.examined ≡ old.examined + 1

module _ {now : ℕ} {old reached looked : DeadlinesValue} (so_far : HasSwept now old reached) (look : IsLook reached looked) where
  -- the last look finds nothing that is due
  pub swept : ((slot until : ℕ) → deadline reached slot ≡ Some until → now < until)
      → (looked.slots ≡ map (entry_after_sweep now) old.slots) × (looked.examined ≡ old.examined + count_by (is_due now) old.slots + 1)
  swept later =
      let none = none_due now reached.slots later in
      (look.slots ∙ sym none.0 ∙ so_far.left, omega (arith, none.1, so_far.examined, look.examined))

  -- each look before it finds an entry that is due
  pub one_removed : (slot until : ℕ) (cleared : DeadlinesValue) → cleared ≡ record { slots = set looked.slots slot None; examined = looked.examined }
      → deadline reached slot ≡ Some until → slot < length reached.slots → until ≤ now → HasSwept now old cleared
  one_removed slot until cleared clear has low past =
      let less = one_less now slot until reached.slots has low past in
      let same : cleared.slots ≡ set reached.slots slot None = ap (λ (d : DeadlinesValue). d.slots) clear ∙ ap (λ s. set s slot None) look.slots in
      let counted : cleared.examined ≡ looked.examined = ap (λ (d : DeadlinesValue). d.examined) clear in
      let fewer : count_by (is_due now) cleared.slots ≡ count_by (is_due now) (set reached.slots slot None) = ap (count_by (is_due now)) same in
      record {
        left = ap (map (entry_after_sweep now)) same ∙ less.0 ∙ so_far.left;
        examined = omega (arith, less.1, counted, fewer, so_far.examined, look.examined);
      }
