-- What a writer holds after a call that may fail on the way. Of these a reader needs `AppendsPrefix`.
use Rattle.std.specs.Prelude.{◌≡◌, ℕ, List, ◌++◌, flat_map, Option}
use Rattle.std.specs.Borrow.{Bor}
use Rattle.std.specs.Io.KnownBytes.{Appends}

-- The writer's known bytes grow by a prefix of these.
pub record AppendsPrefix (old new : Option (List ℕ)) (bytes : List ℕ) : Type 0 where
  pub front : List ℕ
  pub rest : List ℕ
  pub parted : bytes ≡ front ++ rest
  pub appended : Appends old new front

-- the parts concatenated
abbrev pub concatenation : List (Bor (List ℕ)) → List ℕ
concatenation parts = flat_map (λ part. part.now) parts
