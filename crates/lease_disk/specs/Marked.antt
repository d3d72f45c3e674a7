-- Where the marks of a region may lie.
use Rattle.std.specs.Prelude.{◌≡◌, ℕ, ◌<◌, ◌≤◌, Bool, false, List, slice_index_or}

-- nothing is marked but from one place on and before another
pub record AreMarkedWithin (start end : ℕ) (marks : List Bool) : Type 0 where
  pub before : (i : ℕ) → i < start → slice_index_or marks i false ≡ false
  pub after : (i : ℕ) → end ≤ i → slice_index_or marks i false ≡ false
  pub order : start ≤ end
  pub within : end ≤ 32768
