-- Related entries of a list, by their indices.
use Rattle.std.specs.Prelude.{◌≡◌, ℕ, ◌≤◌, List, slice_get, Some}

-- the entry at this index, which is `from` or above, and of which this holds
pub record IsRelated {A : Type 0} (P : A → Type 0) (entries : List A) (from index : ℕ) : Type 0 where
  pub entry : A
  pub is : slice_get entries index ≡ Some entry
  pub above : from ≤ index
  pub related : P entry

-- two entries of which this holds
pub record AreRelated {A : Type 0} (R : A → A → Type 0) (entries : List A) (first second : ℕ) : Type 0 where
  pub one : A
  pub other : A
  pub one_is : slice_get entries first ≡ Some one
  pub other_is : slice_get entries second ≡ Some other
  pub related : R one other
