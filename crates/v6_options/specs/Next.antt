-- One step through the options of a list.
use Rattle.std.specs.Prelude.{◌≡◌, ℕ, ◌^◌, ◌<◌, List, [], ◌∷◌, length, Option, None, Some}
use Rattle.std.specs.Borrow.{Bor}

-- The step takes the first option; `None` where none is left.
abbrev pub GivesOption : List (ℕ × List ℕ) → Option (ℕ × Bor (List ℕ)) → List (ℕ × List ℕ) → Type 0
GivesOption old None new = (old ≡ []) × (new ≡ [])
GivesOption old (Some o) new = (old ≡ (o.0, o.1.now) ∷ new) × (length o.1.now < 2 ^ 16)
