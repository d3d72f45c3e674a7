-- Which bytes of a list are its options but for option 82. Only private functions cite this.
use Rattle.std.specs.Prelude.{◌≡◌, ℕ, ◌+◌, ◌-◌, ◌<◌, ◌≤◌, Bool, false, List, ◌++◌, length, take, slice_index, Option, IfSome}
use Rattle.v4_options.specs.Codes.{RELAY_AGENT_INFORMATION}
use Rattle.v4_options.specs.Reading.{listed_from}
use Rattle.v4_options.specs.Spelling.{spelling, without}
use Rattle.v4_options.specs.declared.token.Syntax.TheVariants as syntax

-- the bytes of the options from here on but for option 82
abbrev pub others : List ℕ → List ℕ
others bytes = spelling (without RELAY_AGENT_INFORMATION (listed_from syntax.Options 0 bytes))

-- The first `len` bytes, and the options that are left, are those of the whole list but for option 82.
pub record IsHead (len : ℕ) (bytes left : List ℕ) : Type 0 where
  pub within : len ≤ length bytes
  pub all : take len bytes ++ others left ≡ others bytes

-- The bytes before `left` are options alone. Of option 82 `agent` is the place of the value's length, or 0 where it was not met.
pub record AreOptionsRead (agent : ℕ) (bytes left : List ℕ) : Type 0 where
  pub not_met : agent ≡ 0 → (len : ℕ) → len + length left ≡ length bytes → IsHead len bytes left
  -- nothing was read after option 82
  pub is_last : 0 < agent → agent + 1 + slice_index bytes agent + length left ≡ length bytes → IsHead (agent - 1) bytes left
  pub past : 0 < agent → agent + 1 + slice_index bytes agent + length left ≤ length bytes

-- Where a pad was met, nothing is said.
abbrev pub IsRead : Bool → ℕ → List ℕ → List ℕ → Type 0
IsRead has_pad agent bytes left = has_pad ≡ false → AreOptionsRead agent bytes left

-- If there is a length, so many bytes are those of the options but for option 82.
abbrev pub HasFront : Option ℕ → List ℕ → Type 0
HasFront front bytes = IfSome front (λ len. (len ≤ length bytes) × (take len bytes ≡ others bytes))
