-- What a circuit id is.
use Rattle.std.specs.Prelude.{ℕ, ◌≤◌, List, length, All}

-- a visible ASCII character
abbrev pub IsVisible : ℕ → Type 0
IsVisible byte = (0x21 ≤ byte) × (byte ≤ 0x7e)

-- 1 to 32 visible ASCII characters
pub record IsCircuitId (bytes : List ℕ) : Type 0 where
  pub least : 1 ≤ length bytes
  pub most : length bytes ≤ 32
  pub visible : All IsVisible bytes
