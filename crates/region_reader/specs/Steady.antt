-- The readings of a region, one after the other: each is the region and the bytes that it had.
use Rattle.std.specs.Prelude.{◌≡◌, ◌≢◌, ℕ, List, [], ◌∷◌, ◌++◌, All, ⊤}

-- no two in a row are equal
unfoldable pub Differ : List (ℕ × List ℕ) → Type 0
Differ [] = ⊤
Differ (_ ∷ []) = ⊤
Differ (one ∷ next ∷ rest) = (one ≢ next) × Differ (next ∷ rest)

-- The region was read until it had these bytes twice in a row, and no longer.
pub record IsSteady (region : ℕ) (bytes : List ℕ) (before after : List (ℕ × List ℕ)) : Type 0 where
  pub earlier : List (ℕ × List ℕ)
  pub appended : after ≡ before ++ (earlier ++ (region, bytes) ∷ (region, bytes) ∷ [])
  pub of_region : All (λ reading. reading.0 ≡ region) earlier
  pub differ : Differ (earlier ++ (region, bytes) ∷ [])

-- The region was read, and no two readings in a row were equal.
pub record AreUnsteady (region : ℕ) (before after : List (ℕ × List ℕ)) : Type 0 where
  pub added : List (ℕ × List ℕ)
  pub appended : after ≡ before ++ added
  pub of_region : All (λ reading. reading.0 ≡ region) added
  pub differ : Differ added
