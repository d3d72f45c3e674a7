-- How the code has numbers in rows, and of each row the least. No public clause says anything of it.
use Rattle.std.specs.Prelude.{◌≡◌, ℕ, ◌*◌, ◌≤◌, List, length, take, drop, slice_index, EachIndex, SomeIndex}
use Rattle.std.specs.Int.{div_ceil}
use Rattle.timers.specs.declared.rows.TheConstants.{ROW}

-- the numbers of row k; the last row may have fewer than the others
abbrev pub row_of : List ℕ → ℕ → List ℕ
row_of numbers k = take ROW (drop (ROW * k) numbers)

-- the least of some numbers: at most each of them, and one of them
pub record IsLeast (numbers : List ℕ) (least : ℕ) : Type 0 where
  pub each : EachIndex numbers (λ i. least ≤ slice_index numbers i)
  pub one : SomeIndex numbers (λ i. slice_index numbers i ≡ least)

-- each number is in a row, and the other list has the least of each row
pub record AreRows (numbers least : List ℕ) : Type 0 where
  pub count : length least ≡ div_ceil (length numbers) ROW
  pub each : EachIndex least (λ k. IsLeast (row_of numbers k) (slice_index least k))
