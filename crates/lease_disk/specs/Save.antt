-- What a save is given, and what it leaves.
use Rattle.std.specs.Prelude.{◌≡◌, ◌≢◌, ℕ, ◌+◌, ◌-◌, ◌%◌, ◌==◌, ◌<◌, ◌≤◌, Bool, true, false, ◌&&◌, nat_le, nat_lt, if◌then◌else◌, List, map, slice_index, slice_index_or, slice_set, Option, Some}
use Rattle.types.specs.declared.slots.Slots.{Slots}
use Rattle.types.specs.Slots.{live4, live6}
use Rattle.lease_disk.specs.declared.content.Content.{Content}
use Rattle.lease_disk.specs.declared.content.Content.TheVariants.{Four, Six}
use Rattle.lease_disk.specs.declared.half.Half.{Half}
use Rattle.lease_disk.specs.declared.half.Half.TheVariants.{First, Second}
use Rattle.lease_disk.specs.declared.marks.Mark.{Mark}
use Rattle.lease_disk.specs.declared.marks.Marks.{Marks}
use Rattle.lease_disk.specs.declared.saving.Saving.{Saving}
use Rattle.lease_disk.specs.Book.{IsBook}
use Rattle.lease_disk.specs.Device.{Device}
use Rattle.lease_disk.specs.HalfBytes.{half_bytes}
use Rattle.lease_disk.specs.Layout.{gate_open, half_at, half2, is_format2}
use Rattle.lease_disk.specs.Recovered.{is_open, sequence, next, is_counting, recovered}
use Rattle.lease_disk.specs.Region.{Region, OthersUnchanged, is_within, IsCrash, IsClean}

abbrev pub other : Half → Half
other First = Second
other Second = First

-- the mark of a slot in format 2: which half counts, its sequence, and whether the other's gate reads open
pub record IsMark (region : ℕ → ℕ) (s : ℕ) (mark : Mark) : Type 0 where
  pub counting : is_counting (half2 region s mark.half) (half2 region s (other mark.half)) ≡ true
  pub sequence : mark.sequence ≡ sequence (half2 region s mark.half)
  pub other_open : mark.other_open ≡ is_open (half2 region s (other mark.half))

abbrev pub mark_at : Marks → ℕ → Mark
mark_at marks s = slice_index_or marks.slots s (record { half = First; sequence = 0; other_open = false })

-- whether a slot lies below its pool's count
abbrev pub is_read : List ℕ → ℕ → Bool
is_read counts s = if nat_lt s 16 then nat_lt s (slice_index counts 0) else nat_lt s 32 && nat_lt (s - 16) (slice_index counts 1)

-- the marks of a region, for pools of so many addresses
abbrev pub AreMarks : List ℕ → (ℕ → ℕ) → Marks → Type 0
AreMarks counts region marks = (s : ℕ) → is_read counts s ≡ true → IsMark region s (mark_at marks s)

-- a DHCPv4 slot is below 16, a DHCPv6 slot from there on
abbrev pub Fits : ℕ → Content → Type 0
Fits s (Four slot) = s < 16
Fits s (Six slot) = (16 ≤ s) × (s < 32)

-- what a save has to be given: a region of format 2 without unsynced bytes, and the right mark of the slot
pub record CanSave (tells : Bool) (device : Device) (saving : Saving) : Type 0 where
  pub exists : saving.region < device.count
  pub fits : Fits saving.slot saving.content
  pub format : tells ≡ true → is_format2 (device.region saving.region).byte ≡ true
  pub clean : tells ≡ true → IsClean (device.region saving.region)
  pub mark : tells ≡ true → IsMark (device.region saving.region).byte saving.slot (mark_at saving.marks saving.slot)

-- the slots at a clock, with one that holds this from then on
abbrev pub with_slot : ℕ → ℕ → Content → Slots → Slots
with_slot clock s (Four slot) slots = record { four = slice_set (map (live4 clock) slots.four) s slot; six = map (live6 clock) slots.six; clock = clock }
with_slot clock s (Six slot) slots = record { four = map (live4 clock) slots.four; six = slice_set (map (live6 clock) slots.six) (s - 16) slot; clock = clock }

-- a change that may be saved: a slot of its pool, not before the kept clock, and it makes a book
pub record IsChange (counts : List ℕ) (clock s : ℕ) (content : Content) (slots : Slots) : Type 0 where
  pub later : slots.clock ≤ clock
  pub below : is_read counts s ≡ true
  pub book : IsBook counts (with_slot clock s content slots)

-- after a save that did not fail
pub record IsSaved (counts : List ℕ) (slots : Slots) (r : Region) : Type 0 where
  pub clean : IsClean r
  pub kept : recovered counts r.byte ≡ Some slots

-- the half that a save writes
abbrev pub gate_at : ℕ → Mark → ℕ
gate_at s mark = half_at s (other mark.half)

-- a byte after a save that did not fail: the half that did not count has the next sequence, the clock and
-- the slot, with its gate open
abbrev pub saved_byte : ℕ → Mark → ℕ → Content → (ℕ → ℕ) → ℕ → ℕ
saved_byte s mark clock content region i =
    if is_within (gate_at s mark) 256 i then slice_index (half_bytes (next mark.sequence) clock content) (i - gate_at s mark) else region i

-- the bytes in doubt after a save whose k-th call failed: those that its last write was to write
abbrev pub in_doubt : ℕ → ℕ → Mark → ℕ → Bool
in_doubt k s mark i =
    if nat_le k 2 then is_within (gate_at s mark) (if mark.other_open then 1 else 0) i
    else if nat_le k 4 then is_within (gate_at s mark + 1) 255 i
    else is_within (gate_at s mark) 1 i

-- A byte after a save whose k-th call failed, with its last write as if that was made: a gate that stood open is 0, from the
-- third call on what follows the gate is saved, and from the fifth on the gate is open. All else is as it was.
abbrev pub left_byte : ℕ → ℕ → Mark → ℕ → Content → (ℕ → ℕ) → ℕ → ℕ
left_byte k s mark clock content region i =
    if nat_le 5 k then saved_byte s mark clock content region i
    else if i == gate_at s mark then (if mark.other_open then 0 else region i)
    else if nat_le 3 k then saved_byte s mark clock content region i
    else region i

-- What a save whose k-th call failed leaves of the bytes of its region.
pub record IsStopped (k s : ℕ) (mark : Mark) (clock : ℕ) (content : Content) (old new : Region) : Type 0 where
  pub doubt : (i : ℕ) → new.unsynced i ≡ in_doubt k s mark i
  -- whatever the bytes in doubt become, each other one is known
  pub sure : (f : ℕ → ℕ) → IsCrash new f → (i : ℕ) → in_doubt k s mark i ≡ false → f i ≡ left_byte k s mark clock content old.byte i
  -- where a sync failed, the second, fourth or sixth call, reads give those in doubt as they were written
  pub reads : k % 2 ≡ 0 → (i : ℕ) → new.byte i ≡ left_byte k s mark clock content old.byte i

-- After a save whose k-th call failed: whatever the unsynced bytes have become, the region recovers
-- to what it was before, but from the fifth call on to the new slots where the gate is open.
pub record IsLeft (k gate : ℕ) (before after : Option Slots) (counts : List ℕ) (r : Region) : Type 0 where
  pub crash : (f : ℕ → ℕ) → IsCrash r f → recovered counts f ≡ (if nat_le 5 k && f gate == gate_open then after else before)
  pub doubt : 5 ≤ k → r.unsynced gate ≡ true

-- What a save of a slot makes of its region and of its marks, where its k-th call failed, and none where k is 0.
pub record IsSaveOf (k clock s : ℕ) (content : Content) (known left : Marks) (old new : Region) : Type 0 where
  pub saved : k ≡ 0 → (counts : List ℕ) (slots : Slots) → recovered counts old.byte ≡ Some slots → IsChange counts clock s content slots
      → IsSaved counts (with_slot clock s content slots) new
  pub bytes : k ≡ 0 → (i : ℕ) → new.byte i ≡ saved_byte s (mark_at known s) clock content old.byte i
  pub clean : k ≡ 0 → IsClean new
  pub marks : k ≡ 0 → (counts : List ℕ) → AreMarks counts old.byte known → AreMarks counts new.byte left
  pub kept : k ≢ 0 → left ≡ known
  pub failed : k ≢ 0 → (counts : List ℕ) (slots : Slots) → recovered counts old.byte ≡ Some slots → IsChange counts clock s content slots
      → IsLeft k (gate_at s (mark_at known s)) (Some slots) (Some (with_slot clock s content slots)) counts new
  pub stopped : k ≢ 0 → IsStopped k s (mark_at known s) clock content old new
  pub format : is_format2 new.byte ≡ true
  pub beside : OthersUnchanged (gate_at s (mark_at known s)) 256 old new
