-- How the code knows the least of some numbers: by a tree in one list, of which node 1 is the root and the last nodes
-- are the numbers. No public clause says anything of it.
use Rattle.std.specs.Prelude.{◌≡◌, ◌≢◌, ℕ, ◌+◌, ◌*◌, ◌<◌, ◌≤◌, List, length, slice_index, min}

-- node i is the lesser of the two below it
abbrev pub IsLesser : List ℕ → ℕ → Type 0
IsLesser nodes i = slice_index nodes i ≡ min (slice_index nodes (2 * i)) (slice_index nodes (2 * i + 1))

-- and so is every node above the leaves
pub record AreLesser (leaves : ℕ) (nodes : List ℕ) : Type 0 where
  pub each : (i : ℕ) → 1 ≤ i → i < leaves → IsLesser nodes i

-- the same, but for one node
pub record AreLesserBut (leaves one : ℕ) (nodes : List ℕ) : Type 0 where
  pub each : (i : ℕ) → 1 ≤ i → i < leaves → i ≢ one → IsLesser nodes i

pub record IsTree (leaves : ℕ) (nodes : List ℕ) : Type 0 where
  pub some : 1 ≤ leaves
  pub whole : length nodes ≡ 2 * leaves
  pub lesser : AreLesser leaves nodes
