-- Moving a region from format 1 to format 2.
use Rattle.std.specs.Prelude.{◌≡◌, ◌<◌, ◌≤◌, ◌⊎◌, ℕ, ◌+◌, ◌-◌, ◌/◌, ◌%◌, ◌==◌, Bool, true, false, not, ◌&&◌, ◌||◌, nat_le, nat_lt, is_some, if◌then◌else◌, List, [], ◌∷◌, slice_index, slice_index_or, Option, Some, None, Result, Ok, Err, OnOk, OnErr}
use Rattle.types.specs.declared.slot4.Slot4.TheVariants as S4
use Rattle.types.specs.declared.slot6.Slot6.TheVariants as S6
use Rattle.types.specs.declared.slots.Slots.{Slots}
use Rattle.lease_disk.specs.declared.content.Content.{Content}
use Rattle.lease_disk.specs.declared.content.Content.TheVariants.{Four, Six}
use Rattle.lease_disk.specs.declared.recovering.RecoverFault.{RecoverFault}
use Rattle.lease_disk.specs.declared.recovering.RecoverFault.TheVariants.{DiskFault, Damaged}
use Rattle.lease_disk.specs.Device.{Device}
use Rattle.lease_disk.specs.HalfBytes.{half_bytes}
use Rattle.lease_disk.specs.Layout.{is_format2}
use Rattle.lease_disk.specs.Recovered.{recovered}
use Rattle.lease_disk.specs.Region.{Region, effective, is_within, one_more_at, synced, written, IsClean, IsCrash, IsTorn}

-- What is written

abbrev pub content_at : Slots → ℕ → Content
content_at slots s = if nat_lt s 16 then Four (slice_index_or slots.four s S4.Free) else Six (slice_index_or slots.six (s - 16) S6.Free)

-- the halves of all slots, one after the other: each slot's first half is open with sequence 0, the kept clock and what
-- the slot holds, and its second half is 0
abbrev pub moved_half : Slots → ℕ → ℕ
moved_half slots i = if nat_lt (i % 512) 256 then slice_index (half_bytes 0 slots.clock (content_at slots (i / 512))) (i % 512) else 0

abbrev pub moved : Slots → (ℕ → ℕ) → ℕ → ℕ
moved slots region i = if i == 8192 then 2 else if nat_le 16384 i && nat_lt i 32768 then moved_half slots (i - 16384) else region i

-- What is answered

-- a region is moved where it is of format 1, can be read and is not damaged
abbrev pub moves : List ℕ → Region → Bool
moves counts r = r.readable && is_some (recovered counts r.byte) && not (is_format2 r.byte)

-- it succeeds, where the k-th of the calls from now on fails, and none where k is 0
abbrev pub succeeds : List ℕ → ℕ → Region → Bool
succeeds counts k r = r.readable && is_some (recovered counts r.byte) && (is_format2 r.byte || effective 4 k == 0)

-- why it does not
abbrev pub refusal : List ℕ → Region → RecoverFault
refusal counts r = if r.readable && not (is_some (recovered counts r.byte)) then Damaged else DiskFault

-- the counts of failures: a fault of the device raises this region's by one, and nothing else does
abbrev pub move_faults : {T : Type 0} → ℕ → Result T RecoverFault → (ℕ → ℕ) → ℕ → ℕ
move_faults r (Ok done) failures = failures
move_faults r (Err Damaged) failures = failures
move_faults r (Err DiskFault) failures = one_more_at r failures

-- how many writes and syncs there are, where none fails
abbrev pub move_calls : List ℕ → Region → ℕ
move_calls counts r = if moves counts r then 4 else 0

-- A move makes so many writes and syncs of region r, and none after one that fails, and one to three reads.
pub record MakesMoveCalls {T : Type 0} (tells : Bool) (counts : List ℕ) (r : ℕ) (result : Result T RecoverFault) (old new : Device) : Type 0 where
  pub failing_call : tells ≡ true → OnOk result (new.failing_call r ≡ old.failing_call r - move_calls counts (old.region r))
  pub writes : tells ≡ true → OnOk result (new.writes ≡ old.writes + move_calls counts (old.region r))
  pub most : new.writes ≤ old.writes + 4
  pub least : old.reads + 1 ≤ new.reads
  pub reads : new.reads ≤ old.reads + 3
  pub last : tells ≡ true → moves counts (old.region r) ≡ true → OnErr result (new.writes ≡ old.writes + old.failing_call r)
  pub failures : new.failures ≡ move_faults r result old.failures

-- What is left

-- the bytes afterwards: of format 2
abbrev pub moved_of : Option Slots → (ℕ → ℕ) → ℕ → ℕ
moved_of None region = region
moved_of (Some slots) region = moved slots region

abbrev pub migrated : List ℕ → (ℕ → ℕ) → ℕ → ℕ
migrated counts region = if is_format2 region then region else moved_of (recovered counts region) region

-- After two writes, each with its sync, of which the k-th call failed: while the halves are written byte 8192 stays, and
-- then it alone is in doubt.
abbrev pub InDoubt : Bool → List ℕ → Region → Region → Type 0
InDoubt false halves old new = IsTorn 16384 16384 old new
InDoubt true halves old new = IsTorn 8192 1 (synced (written 16384 halves old)) new

pub record IsHalfMoved (k : ℕ) (halves : List ℕ) (old new : Region) : Type 0 where
  pub torn : InDoubt (nat_le 3 k) halves old new
  -- where a sync failed, reads give what was written
  pub first : k ≡ 2 → new ≡ written 16384 halves old
  pub second : k ≡ 4 → new ≡ written 8192 (2 ∷ []) (synced (written 16384 halves old))

-- a pool has an address, so that a region of format 2 has a clock
abbrev pub HasAddress : List ℕ → Type 0
HasAddress counts = (1 ≤ slice_index counts 0) ⊎ (1 ≤ slice_index counts 1)

-- A region after a move of which the k-th call of the device fails, and none where k is 0. No byte was unsynced before.
pub record IsMigrated (counts : List ℕ) (k : ℕ) (old new : Region) : Type 0 where
  -- whatever the unsynced bytes become, it recovers to the same book
  pub kept : HasAddress counts → (f : ℕ → ℕ) → IsCrash new f → recovered counts f ≡ recovered counts old.byte
  -- nothing is written where nothing is moved
  pub still : moves counts old ≡ false → new ≡ old
  -- once it is moved each byte is known, and none is unsynced
  pub bytes : moves counts old ≡ true → effective 4 k ≡ 0 → new.byte ≡ migrated counts old.byte
  pub clean : moves counts old ≡ true → effective 4 k ≡ 0 → IsClean new
  pub is_new : moves counts old ≡ true → effective 4 k ≡ 0 → is_format2 new.byte ≡ true
  -- byte 8192 is in doubt where the third or fourth call failed, and else it and all that format 1 uses are as they were
  pub doubt : moves counts old ≡ true → (effective 4 k ≡ 0 → ⊥) → new.unsynced 8192 ≡ nat_le 3 k
  pub format : moves counts old ≡ true → (effective 4 k ≡ 0 → ⊥) → nat_le 3 k ≡ false → new.byte 8192 ≡ old.byte 8192
  -- Nothing is in doubt but the halves where the first or second call failed, and that byte where a later one did.
  -- Reads give all others as they are in a moved region from the second call on, and that byte after the fourth.
  pub in_doubt : moves counts old ≡ true → (effective 4 k ≡ 0 → ⊥) → (i : ℕ) → new.unsynced i ≡ (if nat_le 3 k then i == 8192 else is_within 16384 16384 i)
  pub others : moves counts old ≡ true → 2 ≤ k → (i : ℕ) → (i == 8192) ≡ false → new.byte i ≡ migrated counts old.byte i
  pub after : moves counts old ≡ true → k ≡ 4 → new.byte 8192 ≡ 2
  pub beside : (i : ℕ) → i < 16384 → (i == 8192) ≡ false → new.byte i ≡ old.byte i
  pub sure : (i : ℕ) → i < 16384 → (i == 8192) ≡ false → new.unsynced i ≡ false
  pub readable : new.readable ≡ old.readable
