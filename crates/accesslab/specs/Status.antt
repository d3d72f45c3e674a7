-- The exit statuses of the program.
use Rattle.std.specs.Prelude.{◌≡◌, ◌⊎◌, ℕ}

-- 0 at the end of the text, 2 where words or configuration are refused, 3 at a bad line, 4 out of memory,
-- 5 for a file, 6 where standard input or output fails
abbrev pub IsExitStatus : ℕ → Type 0
IsExitStatus status = (status ≡ 0) ⊎ (status ≡ 2) ⊎ (status ≡ 3) ⊎ (status ≡ 4) ⊎ (status ≡ 5) ⊎ (status ≡ 6)
