-- What the bytes of a region mean, in either format: the slots that a book begins with, or None where the region is
-- damaged.
use Rattle.std.specs.Prelude.{ℕ, ◌+◌, ◌%◌, ◌==◌, Bool, not, ◌&&◌, ◌||◌, nat_le, nat_lt, max, suc, zero, if◌then◌else◌, List, [], ◌∷◌, map, slice_index, Option, Some, None, option_map}
use Rattle.std.specs.Int.{w32, w64, from_be_bytes}
use Rattle.types.specs.declared.slot4.Slot4.{Slot4}
use Rattle.types.specs.declared.slot4.Slot4.TheVariants as S4
use Rattle.types.specs.declared.slot6.Slot6.{Slot6}
use Rattle.types.specs.declared.slot6.Slot6.TheVariants as S6
use Rattle.types.specs.declared.slots.Slots.{Slots}
use Rattle.types.specs.Slots.{last_until, live4, live6, none_twice, same_client4, same_client6}
use Rattle.lease_disk.specs.declared.entry.Entry.{Entry}
use Rattle.lease_disk.specs.declared.half.Half.TheVariants.{First, Second}
use Rattle.lease_disk.specs.Layout.{gate_open, is_format2, half, half1}

-- Which half of a slot counts. Below, `half` and `other` are the bytes of a slot's halves, which format 1 has in
-- its banks: byte 0 is the gate, 1 the state, 2 the length of the key or DUID, 3 the sequence, 4 begins the IAID
-- (DHCPv6 only), 8 the clock, 16 until, and 32 the key or DUID.

abbrev pub is_open : (ℕ → ℕ) → Bool
is_open half = half 0 == gate_open

abbrev pub sequence : (ℕ → ℕ) → ℕ
sequence half = half 3

-- open, with a sequence from 0 to 2
abbrev pub is_valid : (ℕ → ℕ) → Bool
is_valid half = is_open half && nat_le (sequence half) 2

-- 0, 1, 2, 0, and so on
abbrev pub next : ℕ → ℕ
next n = (n + 1) % 3

-- the only open one; of two open ones the one whose sequence is the next after the other's
abbrev pub is_counting : (ℕ → ℕ) → (ℕ → ℕ) → Bool
is_counting half other =
    is_valid half && (not (is_open other) || (is_valid other && sequence half == next (sequence other)))

-- What a half holds

-- the n bytes from an offset on
abbrev pub bytes_at : (ℕ → ℕ) → ℕ → ℕ → List ℕ
bytes_at bytes at zero = []
bytes_at bytes at (suc n) = bytes at ∷ bytes_at bytes (suc at) n

abbrev pub clock_of : (ℕ → ℕ) → ℕ
clock_of half = from_be_bytes w64 (bytes_at half 8 8)

abbrev pub until_of : (ℕ → ℕ) → ℕ
until_of half = from_be_bytes w64 (bytes_at half 16 8)

-- 2^40 - 1
abbrev pub last_clock : ℕ
last_clock = 1099511627775

-- 0 free, 1 bound, 2 barred; None where the state is above 2, until is past its limit, or the key
-- of a bound slot has not 2 to 64 bytes
abbrev pub slot4_of : (ℕ → ℕ) → Option Slot4
slot4_of half =
    if half 1 == 0 then Some S4.Free
    else if nat_lt last_until (until_of half) then None
    else if half 1 == 1 then
    (if nat_le 2 (half 2) && nat_le (half 2) 64
    then Some (S4.Bound (bytes_at half 32 (half 2)) (until_of half))
    else None)
    else if half 1 == 2 then Some (S4.Barred (until_of half))
    else None

-- 0 free, 1 bound, 2 barred; None where the state is above 2, until is past its limit, or the DUID of a bound slot has not 3 to 130 bytes
abbrev pub slot6_of : (ℕ → ℕ) → Option Slot6
slot6_of half =
    if half 1 == 0 then Some S6.Free
    else if nat_lt last_until (until_of half) then None
    else if half 1 == 1 then
    (if nat_le 3 (half 2) && nat_le (half 2) 130
    then Some (S6.Bound (record { duid = bytes_at half 32 (half 2); iaid = from_be_bytes w32 (bytes_at half 4 4) }) (until_of half))
    else None)
    else if half 1 == 2 then Some (S6.Barred (until_of half))
    else None

module _ {A : Type 0} where
  abbrev pub saved_at : ℕ → A → Entry A
  saved_at clock content = record { clock = clock; content = content }

  -- what a half holds and the clock by which it was saved; None where the clock is past its limit or the
  -- slot is damaged
  abbrev pub held : ((ℕ → ℕ) → Option A) → (ℕ → ℕ) → Option (Entry A)
  held read half = if nat_le (clock_of half) last_clock then option_map (saved_at (clock_of half)) (read half) else None

  -- what the half that counts holds
  abbrev pub entry_of : ((ℕ → ℕ) → Option A) → (ℕ → ℕ) → (ℕ → ℕ) → Option (Entry A)
  entry_of read first second =
      if is_counting first second then held read first
      else if is_counting second first then held read second
      else None

  abbrev pub entry : ((ℕ → ℕ) → Option A) → (ℕ → ℕ) → ℕ → Option (Entry A)
  entry read region s = entry_of read (half region s First) (half region s Second)

  abbrev pub cons_some : Option A → Option (List A) → Option (List A)
  cons_some (Some x) (Some xs) = Some (x ∷ xs)
  cons_some _ _ = None

  -- n of them from the i-th on, by a function that reads the i-th; None where one of them is damaged
  abbrev pub all_from : (ℕ → Option A) → ℕ → ℕ → Option (List A)
  all_from read i zero = Some []
  all_from read i (suc n) = cons_some (read i) (all_from read (suc i) n)

  -- the greatest clock
  abbrev pub latest : List (Entry A) → ℕ
  latest [] = 0
  latest (e ∷ es) = max e.clock (latest es)

  -- what the slots hold at a clock, by what is live of a slot
  abbrev pub contents_at : (ℕ → A → A) → ℕ → List (Entry A) → List A
  contents_at live clock entries = map (λ e. live clock e.content) entries

-- the entries of a pool of so many addresses in a region with this clock: a slot past the pool is not read, and free
abbrev pub pool_entries : {A : Type 0} → ℕ → A → ℕ → (ℕ → Option (Entry A)) → Option (List (Entry A))
pool_entries clock free count read = all_from (λ i. if nat_lt i count then read i else Some (saved_at clock free)) 0 16

-- What the region holds

-- the clock of a half or bank, within its limit
abbrev pub clock_within : (ℕ → ℕ) → Option ℕ
clock_within half = if nat_le (clock_of half) last_clock then Some (clock_of half) else None

-- the clock of what counts of two
abbrev pub counting_clock : (ℕ → ℕ) → (ℕ → ℕ) → Option ℕ
counting_clock first second =
    if is_counting first second then clock_within first
    else if is_counting second first then clock_within second
    else None

-- The clock that a region has as a whole: in format 1 that of the bank that counts, and None where none does. In format 2
-- it has none, since each slot has one.
abbrev pub region_clock : (ℕ → ℕ) → Option ℕ
region_clock region = if is_format2 region then Some 0 else counting_clock (half1 region 0 First) (half1 region 0 Second)

-- at the kept clock, by which no client has two live leases of one protocol
abbrev pub book_at : ℕ → List Slot4 → List Slot6 → Option Slots
book_at clock four six =
    if none_twice same_client4 four && none_twice same_client6 six
    then Some (record { four = four; six = six; clock = clock })
    else None

-- the kept clock is the greatest of all entries
abbrev pub recovered_slots : Option (List (Entry Slot4)) → Option (List (Entry Slot6)) → Option Slots
recovered_slots (Some four) (Some six) =
    book_at (max (latest four) (latest six)) (contents_at live4 (max (latest four) (latest six)) four) (contents_at live6 (max (latest four) (latest six)) six)
recovered_slots _ _ = None

-- by entries, in a region with this clock
abbrev pub book_in : List ℕ → Option ℕ → (ℕ → Option (Entry Slot4)) → (ℕ → Option (Entry Slot6)) → Option Slots
book_in counts None four six = None
book_in counts (Some clock) four six =
    recovered_slots (pool_entries clock S4.Free (slice_index counts 0) four) (pool_entries clock S6.Free (slice_index counts 1) (λ i. six (16 + i)))

-- for pools of so many addresses
unfoldable pub recovered : List ℕ → (ℕ → ℕ) → Option Slots
recovered counts region = book_in counts (region_clock region) (entry slot4_of region) (entry slot6_of region)
