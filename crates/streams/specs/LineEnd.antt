-- What a call that reads a line has consumed, by how the line ended. Only contracts between crates cite these.
use Rattle.std.specs.Prelude.{◌≡◌, ℕ, ◌+◌, ◌<◌, ◌≤◌, true, List, [], ◌∷◌, ◌++◌, length, take, Option}
use Rattle.std.proofs.Common.{get_or}
use Rattle.std.specs.Io.KnownBytes.{Consumes, IsAtEnd}
use Rattle.streams.specs.declared.line.LineEnd.{LineEnd}
use Rattle.streams.specs.declared.line.LineEnd.TheVariants.{Newline, EndOfInput, TooLong}
use Rattle.streams.specs.Lines.{lacks}

-- a part of a line, or all of it
pub record IsPart (old new : Option (List ℕ)) (part : List ℕ) : Type 0 where
  pub plain : lacks 10 part ≡ true
  pub read : Consumes old new part

-- a line and its line feed
pub record IsLine (old new : Option (List ℕ)) (line : List ℕ) : Type 0 where
  pub plain : lacks 10 line ≡ true
  pub read : Consumes old new (line ++ 10 ∷ [])

-- what follows the last line feed
pub record IsLast (old new : Option (List ℕ)) (line : List ℕ) : Type 0 where
  pub part : IsPart old new line
  pub end : IsAtEnd new

-- a part of a line that is already too long
pub record IsLong (old new : Option (List ℕ)) : Type 0 where
  pub front : List ℕ
  pub long : 8192 < length front
  pub part : IsPart old new front

-- The bytes that are held begin with a line of this length and its line feed.
pub record HoldsLine (held : List ℕ) (len : ℕ) : Type 0 where
  pub short : len ≤ 8192
  pub inside : len < length held
  pub plain : lacks 10 (take len held) ≡ true
  pub feed : get_or held len 0 ≡ 10

-- They begin with a part of a line that is already too long.
pub record HoldsLong (held : List ℕ) : Type 0 where
  pub size : ℕ
  pub long : 8192 < size
  pub within : size ≤ length held
  pub plain : lacks 10 (take size held) ≡ true

-- They are what follows the last line feed of the input.
pub record HoldsLast (held : List ℕ) (left : Option (List ℕ)) (len : ℕ) : Type 0 where
  pub size : length held ≡ len
  pub short : len ≤ 8192
  pub plain : lacks 10 held ≡ true
  pub end : IsAtEnd left

-- the length of the line; nothing of one that is too long is used
abbrev pub len_of : LineEnd → ℕ
len_of (Newline len) = len
len_of (EndOfInput len) = len
len_of TooLong = 0

-- how many line feeds are held after it
abbrev pub feeds_of : LineEnd → ℕ
feeds_of (Newline len) = 1
feeds_of (EndOfInput len) = 0
feeds_of TooLong = 0

-- The first line of the bytes that are held ends so, whatever follows them.
abbrev pub IsFirstEnd : List ℕ → LineEnd → Type 0
IsFirstEnd held (Newline len) = HoldsLine held len
IsFirstEnd held (EndOfInput len) = ⊥
IsFirstEnd held TooLong = HoldsLong held

-- It ends so, where this is left to read.
abbrev pub IsLineEnd : List ℕ → Option (List ℕ) → LineEnd → Type 0
IsLineEnd held left (Newline len) = HoldsLine held len
IsLineEnd held left (EndOfInput len) = HoldsLast held left len
IsLineEnd held left TooLong = HoldsLong held

-- The first line that is held ends so, where this is left to read.
pub record IsLineRead (held : List ℕ) (left : Option (List ℕ)) (result : LineEnd) : Type 0 where
  pub end : IsLineEnd held left result
  pub within : len_of result ≤ 8192
  pub inside : len_of result + feeds_of result ≤ length held

-- The rest of a text begins with the line that is held and ends so.
abbrev pub Fits : List ℕ → LineEnd → List ℕ → Type 0
Fits held (Newline len) rest = (more : List ℕ) × (rest ≡ (take len held ++ 10 ∷ []) ++ more)
Fits held (EndOfInput len) rest = rest ≡ held
Fits held TooLong rest = (more : List ℕ) × (rest ≡ held ++ more)

-- what was read before the reader failed
pub record IsCut (old new : Option (List ℕ)) : Type 0 where
  pub front : List ℕ
  pub read : Consumes old new front

-- the count rose by the number of bytes that were read
pub record IsCounted (old new : Option (List ℕ)) (before after : ℕ) : Type 0 where
  pub bytes : List ℕ
  pub read : Consumes old new bytes
  pub count : after ≡ before + length bytes
