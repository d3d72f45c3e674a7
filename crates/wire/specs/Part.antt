-- A part of a list of bytes.
use Rattle.std.specs.Prelude.{ℕ, List, take, drop}

-- `len` bytes from offset `at`.
abbrev pub part : List ℕ → ℕ → ℕ → List ℕ
part bytes at len = take len (drop at bytes)
