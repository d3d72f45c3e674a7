-- What a restart finds of a region.
use Rattle.std.specs.Prelude.{◌≡◌, ◌<◌, ◌≤◌, ◌==◌, ◌||◌, ℕ, true, false, nat_le, nat_lt, if◌then◌else◌, List, Some, None}
use Rattle.lease_disk.specs.declared.image.Image.{Image}
use Rattle.lease_disk.specs.declared.image.Image.TheVariants.{Byte, Unreadable}
use Rattle.lease_disk.specs.Book.{empty_book}
use Rattle.lease_disk.specs.Layout.{formatted, formatted_old, gate_open}
use Rattle.lease_disk.specs.Recovered.{recovered}
use Rattle.lease_disk.specs.Region.{Region, image, written, IsClean, IsCrash}

-- an unreadable region keeps its bytes and what is in doubt
abbrev pub crashed : Image → Region → Region
crashed (Byte byte) r = record { byte = image byte r; unsynced = λ i. false; readable = true }
crashed Unreadable r = record { byte = r.byte; unsynced = r.unsynced; readable = false }

-- each byte is this one, and what was in doubt stays so
abbrev pub filled : ℕ → Region → Region
filled byte r = record { byte = λ i. if nat_lt i 32768 then byte else 0; unsynced = r.unsynced; readable = r.readable }

-- these bytes stand from an offset on, and what was in doubt stays so
abbrev pub loaded : ℕ → List ℕ → Region → Region
loaded at bytes r = record { byte = (written at bytes r).byte; unsynced = r.unsynced; readable = r.readable }

-- a region that was just formatted
abbrev pub formatted_region : Region
formatted_region = record { byte = formatted; unsynced = λ i. false; readable = true }

-- its bytes, of which a crash changes none
pub record IsFormatted (r : Region) : Type 0 where
  pub byte : (i : ℕ) → i < 32768 → r.byte i ≡ formatted i
  pub clean : IsClean r

-- After a formatting whose k-th call failed: once all but the byte of the format is synced, whatever that
-- byte has become, the region is damaged or has an empty book.
abbrev pub IsHalfFormatted : ℕ → Region → Type 0
IsHalfFormatted k r = 3 ≤ k → (counts : List ℕ) (f : ℕ → ℕ) → IsCrash r f → recovered counts f ≡ (if f 8192 == 2 then Some empty_book else None)

-- What a formatting whose k-th call failed leaves of the bytes of a region, of which it writes one last.
pub record IsHalfWritten (last : ℕ) (formatted : ℕ → ℕ) (k : ℕ) (r : Region) : Type 0 where
  -- in doubt are all bytes, and from the third call on this one alone
  pub doubt : (i : ℕ) → i < 32768 → r.unsynced i ≡ (nat_le k 2 || i == last)
  -- once they are written reads give the others as a formatted region has them, and this one as 0 until it is written too
  pub others : 2 ≤ k → (i : ℕ) → i < 32768 → (i == last) ≡ false → r.byte i ≡ formatted i
  pub before : k ≡ 2 → r.byte last ≡ 0
  pub after : k ≡ 4 → r.byte last ≡ formatted last

-- a region that was formatted in format 1
pub record IsFormattedOld (r : Region) : Type 0 where
  pub byte : (i : ℕ) → i < 32768 → r.byte i ≡ formatted_old i
  pub clean : IsClean r

-- after a formatting in format 1 whose k-th call failed: an empty book where the gate of the first bank is open, else damaged
abbrev pub IsHalfFormattedOld : ℕ → Region → Type 0
IsHalfFormattedOld k r = 3 ≤ k → (counts : List ℕ) (f : ℕ → ℕ) → IsCrash r f → recovered counts f ≡ (if f 0 == gate_open then Some empty_book else None)
