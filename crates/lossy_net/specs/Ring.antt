-- How the code lays a list out in a ring of places. No public clause says anything of it.
use Rattle.std.specs.Prelude.{ℕ, ◌-◌, ◌*◌, ◌==◌, if◌then◌else◌, List, ◌++◌, take, drop}

-- the position before h in a ring of q places
abbrev pub before : ℕ → ℕ → ℕ
before q h = if h == 0 then q - 1 else h - 1

-- n items from position k on; after the last item comes the first
abbrev pub window : {X : Type 0} → ℕ → ℕ → List X → List X
window k n xs = take n (drop k xs ++ take k xs)

-- the items of ring r, where each ring has q items of the row
abbrev pub segment : {X : Type 0} → ℕ → ℕ → List X → List X
segment q r xs = take q (drop (r * q) xs)
