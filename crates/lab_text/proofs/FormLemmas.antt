-- How many fields a form has after its first: no more than four.
use Rattle.std.proofs.Common.{◌≡◌, ◌≤◌, List, ℕ, [], ◌∷◌, length, take, get_or, refl, sym, ap, ◌∙◌, arith, inl, inr, take_all}
use Rattle.std.proofs.lemmas.Bool.{cases_lt}
use Rattle.std.proofs.lemmas.List.{length-take-le}
use Rattle.std.specs.Borrow.{Bor}
use Rattle.settings.specs.Settings.{Settings}
use Rattle.lab_text.specs.FieldsAfter.{texts}
use Rattle.lab_text.specs.Line.{Line, Bad, line_of_form}
use Rattle.lab_text.specs.declared.form.Form.{Form}
use Rattle.lab_text.specs.declared.form.Form.TheVariants as form

abbrev pub count_of : Form → ℕ
count_of form.Fill = 2
count_of form.Old = 1
count_of form.Load = 3
count_of form.Move = 2
count_of form.Frame = 3
count_of form.Up = 4
count_of form.Down = 2
count_of form.Tick = 1
count_of form.Reload = 1
count_of form.StrayUp = 4
count_of form.StrayDown = 3

at_most_four : (known : Form) → count_of known ≤ 4
at_most_four known = grind arith

-- what is bad but for so many fields
module _ (f : List (List ℕ) → Line) (none : f [] ≡ Bad) where
  but_one : ((a b : List ℕ) (more : List (List ℕ)) → f (a ∷ b ∷ more) ≡ Bad) → (fields : List (List ℕ)) → (length fields ≡ 1 → ⊥) → Bad ≡ f fields
  but_one many [] other = sym none
  but_one many (a ∷ []) other = absurd (other refl)
  but_one many (a ∷ b ∷ more) other = sym (many a b more)

  module _ (one : (a : List ℕ) → f (a ∷ []) ≡ Bad) where
    but_two : ((a b c : List ℕ) (more : List (List ℕ)) → f (a ∷ b ∷ c ∷ more) ≡ Bad) → (fields : List (List ℕ)) → (length fields ≡ 2 → ⊥) → Bad ≡ f fields
    but_two many [] other = sym none
    but_two many (a ∷ []) other = sym (one a)
    but_two many (a ∷ b ∷ []) other = absurd (other refl)
    but_two many (a ∷ b ∷ c ∷ more) other = sym (many a b c more)

    module _ (two : (a b : List ℕ) → f (a ∷ b ∷ []) ≡ Bad) where
      but_three : ((a b c d : List ℕ) (more : List (List ℕ)) → f (a ∷ b ∷ c ∷ d ∷ more) ≡ Bad) → (fields : List (List ℕ)) → (length fields ≡ 3 → ⊥) → Bad ≡ f fields
      but_three many [] other = sym none
      but_three many (a ∷ []) other = sym (one a)
      but_three many (a ∷ b ∷ []) other = sym (two a b)
      but_three many (a ∷ b ∷ c ∷ []) other = absurd (other refl)
      but_three many (a ∷ b ∷ c ∷ d ∷ more) other = sym (many a b c d more)

      but_four : ((a b c : List ℕ) → f (a ∷ b ∷ c ∷ []) ≡ Bad) → ((a b c d e : List ℕ) (more : List (List ℕ)) → f (a ∷ b ∷ c ∷ d ∷ e ∷ more) ≡ Bad) → (fields : List (List ℕ)) → (length fields ≡ 4 → ⊥) → Bad ≡ f fields
      but_four three many [] other = sym none
      but_four three many (a ∷ []) other = sym (one a)
      but_four three many (a ∷ b ∷ []) other = sym (two a b)
      but_four three many (a ∷ b ∷ c ∷ []) other = sym (three a b c)
      but_four three many (a ∷ b ∷ c ∷ d ∷ []) other = absurd (other refl)
      but_four three many (a ∷ b ∷ c ∷ d ∷ e ∷ more) other = sym (many a b c d e more)

-- another number of fields is bad
module _ (settings : Settings) (plans : ℕ) where
  pub other_count : (known : Form) (fields : List (List ℕ)) → (length fields ≡ count_of known → ⊥) → Bad ≡ line_of_form settings plans known fields
  other_count form.Fill = but_two (line_of_form settings plans form.Fill) refl (λ a. refl) (λ a b c more. refl)
  other_count form.Old = but_one (line_of_form settings plans form.Old) refl (λ a b more. refl)
  other_count form.Load = but_three (line_of_form settings plans form.Load) refl (λ a. refl) (λ a b. refl) (λ a b c d more. refl)
  other_count form.Move = but_two (line_of_form settings plans form.Move) refl (λ a. refl) (λ a b c more. refl)
  other_count form.Frame = but_three (line_of_form settings plans form.Frame) refl (λ a. refl) (λ a b. refl) (λ a b c d more. refl)
  other_count form.Up = but_four (line_of_form settings plans form.Up) refl (λ a. refl) (λ a b. refl) (λ a b c. refl) (λ a b c d e more. refl)
  other_count form.Down = but_two (line_of_form settings plans form.Down) refl (λ a. refl) (λ a b c more. refl)
  other_count form.Tick = but_one (line_of_form settings plans form.Tick) refl (λ a b more. refl)
  other_count form.Reload = but_one (line_of_form settings plans form.Reload) refl (λ a b more. refl)
  other_count form.StrayUp = but_four (line_of_form settings plans form.StrayUp) refl (λ a. refl) (λ a b. refl) (λ a b c. refl) (λ a b c d e more. refl)
  other_count form.StrayDown = but_three (line_of_form settings plans form.StrayDown) refl (λ a. refl) (λ a b. refl) (λ a b c d more. refl)

  -- fields past the fifth change nothing
  pub first_five : (known : Form) (fields : List (List ℕ)) → line_of_form settings plans known (take 5 fields) ≡ line_of_form settings plans known fields
  first_five known fields = elim (cases_lt (length fields) 5) [
    | inl few ↦ ap (line_of_form settings plans known) (take_all 5 fields (omega (arith, few)))
    | inr many ↦
        let size = length-take-le 5 fields many in
        sym (other_count known (take 5 fields) (λ same. omega (arith, same, size, at_most_four known))) ∙ other_count known fields (λ same. omega (arith, same, many, at_most_four known))
  ]

-- what is said of three fields by their places
pub by_three : (f : List (List ℕ) → Line) (fields : List (Bor (List ℕ))) (d : Bor (List ℕ)) {line : Line} → length fields ≡ 3
    → line ≡ f ((get_or fields 0 d).now ∷ (get_or fields 1 d).now ∷ (get_or fields 2 d).now ∷ []) → line ≡ f (texts fields)
by_three f [] d three same = absurd (omega (arith, three))
by_three f (a ∷ []) d three same = absurd (omega (arith, three))
by_three f (a ∷ b ∷ []) d three same = absurd (omega (arith, three))
by_three f (a ∷ b ∷ c ∷ []) d three same = same
by_three f (a ∷ b ∷ c ∷ e ∷ more) d three same = absurd (omega (arith, three))

-- and of four
pub by_four : (f : List (List ℕ) → Line) (fields : List (Bor (List ℕ))) (d : Bor (List ℕ)) {line : Line} → length fields ≡ 4
    → line ≡ f ((get_or fields 0 d).now ∷ (get_or fields 1 d).now ∷ (get_or fields 2 d).now ∷ (get_or fields 3 d).now ∷ []) → line ≡ f (texts fields)
by_four f [] d four same = absurd (omega (arith, four))
by_four f (a ∷ []) d four same = absurd (omega (arith, four))
by_four f (a ∷ b ∷ []) d four same = absurd (omega (arith, four))
by_four f (a ∷ b ∷ c ∷ []) d four same = absurd (omega (arith, four))
by_four f (a ∷ b ∷ c ∷ e ∷ []) d four same = same
by_four f (a ∷ b ∷ c ∷ e ∷ g ∷ more) d four same = absurd (omega (arith, four))
