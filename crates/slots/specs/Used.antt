-- How many of a pool's slots may be held. No public clause says anything of it.
use Rattle.std.specs.Prelude.{◌≡◌, ℕ, ◌+◌, ◌≤◌, ◌&&◌, nat_le, nat_lt, if◌then◌else◌, Bool, List, length, Option, None, slice_index_or}
use Rattle.slots.specs.declared.holder.Holder.{Holder}
use Rattle.slots.specs.Slots.{AreDistinct}

-- how many may be held after one of `count` slots was written
abbrev pub used_after : ℕ → ℕ → ℕ → ℕ
used_after used slot count = if nat_le used slot && nat_lt slot count then slot + 1 else used

module _ {K : Type 0} where
  -- nobody holds a slot from this one on
  pub record IsUsed (used : ℕ) (slots : List (Option (Holder K))) : Type 0 where
    pub within : used ≤ length slots
    pub free : (i : ℕ) → used ≤ i → slice_index_or slots i None ≡ None

  -- what the fields of a table keep
  pub record IsTable (eqk : K → K → Bool) (count : ℕ) (slots : List (Option (Holder K))) : Type 0 where
    pub distinct : AreDistinct eqk slots
    pub used : IsUsed count slots
