-- A region of a device, without its layout: its bytes, which of them a crash may still change, and
-- whether it can be read.
use Rattle.std.specs.Prelude.{◌≡◌, ℕ, ◌+◌, ◌-◌, ◌<◌, ◌==◌, Bool, false, ◌&&◌, ◌||◌, nat_le, nat_lt, if◌then◌else◌, List, length, slice_index, Result, is_ok}

pub record Region : Type 0 where
  -- what a read gives at an offset
  pub byte : ℕ → ℕ
  -- written, or in a range whose write failed, since the last sync
  pub unsynced : ℕ → Bool
  pub readable : Bool

-- the offset is one of the n from `at` on
abbrev pub is_within : ℕ → ℕ → ℕ → Bool
is_within at n i = nat_le at i && nat_lt i (at + n)

-- a region after a write
abbrev pub written : ℕ → List ℕ → Region → Region
written at bytes r = record {
  byte = λ i. if is_within at (length bytes) i then slice_index bytes (i - at) else r.byte i;
  unsynced = λ i. is_within at (length bytes) i || r.unsynced i;
  readable = r.readable;
}

-- a region after a sync
abbrev pub synced : Region → Region
synced r = record { byte = r.byte; unsynced = λ i. false; readable = r.readable }

-- the bytes after a crash in which each unsynced byte became this one
abbrev pub image : ℕ → Region → ℕ → ℕ
image byte r i = if r.unsynced i then byte else r.byte i

-- a crash may leave these bytes: the unsynced ones may have become any
pub record IsCrash (r : Region) (bytes : ℕ → ℕ) : Type 0 where
  pub same : (i : ℕ) → r.unsynced i ≡ false → bytes i ≡ r.byte i

-- a crash leaves what a read gives
pub record IsClean (r : Region) : Type 0 where
  pub each : (i : ℕ) → r.unsynced i ≡ false

-- what a read of a region gives
abbrev pub IsRead : Region → ℕ → List ℕ → Type 0
IsRead r at bytes = (i : ℕ) → i < length bytes → slice_index bytes i ≡ r.byte (at + i)

-- the counts of failures, one for each region: one more of this region
abbrev pub one_more_at : ℕ → (ℕ → ℕ) → ℕ → ℕ
one_more_at r failures q = if q == r then failures q + 1 else failures q

-- a fault raises the count of the region that the call names by one, and nothing else does
abbrev pub faults_after : {T E : Type 0} → ℕ → Result T E → (ℕ → ℕ) → ℕ → ℕ
faults_after r result failures = if is_ok result then failures else one_more_at r failures

-- a region after a write of n bytes failed, or the sync after it: the range is in doubt
pub record IsTorn (at n : ℕ) (old new : Region) : Type 0 where
  pub byte : (i : ℕ) → is_within at n i ≡ false → new.byte i ≡ old.byte i
  pub unsynced : (i : ℕ) → new.unsynced i ≡ (is_within at n i || old.unsynced i)
  pub readable : new.readable ≡ old.readable

-- every byte outside n from an offset on is as it was, and as sure as it was
pub record OthersUnchanged (at n : ℕ) (old new : Region) : Type 0 where
  pub byte : (i : ℕ) → is_within at n i ≡ false → new.byte i ≡ old.byte i
  pub unsynced : (i : ℕ) → is_within at n i ≡ false → new.unsynced i ≡ old.unsynced i

-- of the next n calls the one that fails, by a failing_call; 0 where none of them does
abbrev pub effective : ℕ → ℕ → ℕ
effective n failing_call = if nat_le failing_call n then failing_call else 0
