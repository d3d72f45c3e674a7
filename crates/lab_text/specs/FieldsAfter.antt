-- The fields of a line as they are read. Only proofs need these.
use Rattle.std.specs.Prelude.{ℕ, List, [], ◌∷◌, map, Option, Some, None}
use Rattle.std.specs.Borrow.{Bor}
use Rattle.lab_text.specs.Fields.{fields_of}

-- the fields after a space, if there is one
abbrev pub fields_after : Option (List ℕ) → List (List ℕ)
fields_after None = []
fields_after (Some rest) = fields_of rest

-- the next field and those after it, if there is a next one
abbrev pub fields_of_next : Option (List ℕ × Option (List ℕ)) → List (List ℕ)
fields_of_next None = []
fields_of_next (Some parts) = parts.0 ∷ fields_after parts.1

-- what these refer to
abbrev pub texts : List (Bor (List ℕ)) → List (List ℕ)
texts fields = map (λ field. field.now) fields
