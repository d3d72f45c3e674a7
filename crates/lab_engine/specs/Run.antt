-- How a run ends: its status, and what was read and written where the reader or the writer fails.
use Rattle.std.specs.Prelude.{◌≡◌, ℕ, ◌<◌, ◌⊎◌, List, length, Option}
use Rattle.std.specs.Io.KnownBytes.{Consumes}
use Rattle.lab_engine.specs.Lab.{Output}
use Rattle.streams.specs.Writing.{AppendsPrefix}

-- the status of a run that ends before the end of the text: 3 at a bad line, 6 at a failure
abbrev pub IsEnd : ℕ → Type 0
IsEnd status = (status ≡ 3) ⊎ (status ≡ 6)

-- the status of a run
abbrev pub IsStatus : ℕ → Type 0
IsStatus status = (status ≡ 0) ⊎ IsEnd status

-- Some of the text was read, and a prefix of its output was written.
pub record IsPartial (output : List ℕ → Output) (given left held holds : Option (List ℕ)) : Type 0 where
  pub read : List ℕ
  pub consumed : Consumes given left read
  pub partial : AppendsPrefix held holds (output read).text

-- So many bytes were read.
pub record HasRead (given left : Option (List ℕ)) (n : ℕ) : Type 0 where
  pub read : List ℕ
  pub consumed : Consumes given left read
  pub count : length read ≡ n

-- The reader or the writer failed, by their counts before and after, or 2^64 - 1 bytes were read.
abbrev pub HasCause : Option (List ℕ) → Option (List ℕ) → ℕ → ℕ → ℕ → ℕ → Type 0
HasCause given left reader reader_after writer writer_after =
    (reader < reader_after) ⊎ (writer < writer_after) ⊎ HasRead given left 18446744073709551615

-- Neither failed, and fewer than 2^64 - 1 bytes were read.
pub record HasNoCause (given left : Option (List ℕ)) (reader reader_after writer writer_after : ℕ) : Type 0 where
  pub reader_quiet : reader_after ≡ reader
  pub writer_quiet : writer_after ≡ writer
  pub count : ℕ
  pub few : count < 18446744073709551615
  pub read : HasRead given left count
