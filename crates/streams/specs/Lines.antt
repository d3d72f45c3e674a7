-- The lines of a text.
use Rattle.std.specs.Prelude.{ℕ, List, [], ◌∷◌, ◌==◌, if◌then◌else◌, Bool, true, false}

-- none of the bytes is this one
unfoldable pub lacks : ℕ → List ℕ → Bool
lacks byte [] = true
lacks byte (b ∷ bytes) = if b == byte then false else lacks byte bytes

-- a byte in front of the first part
abbrev pub with_byte : ℕ → List (List ℕ) → List (List ℕ)
with_byte b [] = (b ∷ []) ∷ []
with_byte b (part ∷ parts) = (b ∷ part) ∷ parts

-- The lines of a text. Each ends with a line feed (10), which is not part of it; the last may lack it.
unfoldable pub lines_of : List ℕ → List (List ℕ)
lines_of [] = []
lines_of (b ∷ text) = if b == 10 then [] ∷ lines_of text else with_byte b (lines_of text)
