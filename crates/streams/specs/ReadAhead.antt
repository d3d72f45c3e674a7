-- The bytes that were read and not yet consumed. Only contracts between crates cite these.
use Rattle.std.specs.Prelude.{◌≡◌, ◌<◌, ℕ, Bool, true, false, List, slice_range, Option}
use Rattle.std.specs.Io.KnownBytes.{IsAtEnd}
use Rattle.streams.specs.declared.read_ahead.ReadAhead.{ReadAhead}

abbrev pub held : ReadAhead → List ℕ
held ahead = slice_range ahead.bytes ahead.start ahead.end

-- Whether bytes were read after those that are held, where this is left to read: if not, the input is at its end.
pub record IsReadAheadFilled (old new : ReadAhead) (left : Option (List ℕ)) (result : Bool) : Type 0 where
  pub more : result ≡ true → old.count < new.count
  pub end : result ≡ false → IsAtEnd left
  pub same : result ≡ false → held new ≡ held old
