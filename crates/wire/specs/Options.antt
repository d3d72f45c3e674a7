-- A list of options of either protocol, each a code and its value.
use Rattle.std.specs.Prelude.{ℕ, ◌==◌, List, [], ◌∷◌, Option, Some, None, if◌then◌else◌}

-- The value of the first option with this code.
abbrev pub look_up : ℕ → List (ℕ × List ℕ) → Option (List ℕ)
look_up code [] = None
look_up code (o ∷ os) = if o.0 == code then Some o.1 else look_up code os
