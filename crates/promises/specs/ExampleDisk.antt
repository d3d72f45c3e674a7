-- Worked examples of the disk: halves of slots and regions, byte for byte.
use Rattle.std.specs.Prelude.{ℕ, ◌-◌, List, [], ◌∷◌, ◌++◌, length, replicate, slice_index, if◌then◌else◌}
use Rattle.types.specs.declared.slot4.Slot4.{Slot4}
use Rattle.types.specs.declared.slot4.Slot4.TheVariants as S4
use Rattle.types.specs.declared.slot6.Slot6.{Slot6}
use Rattle.types.specs.declared.slot6.Slot6.TheVariants as S6
use Rattle.types.specs.declared.slots.Slots.{Slots}
use Rattle.lease_disk.specs.Region.{is_within}
use Rattle.promises.specs.Examples.{client}
use Rattle.promises.specs.Examples6.{client6}

-- Halves by four bytes (gate, state, length, sequence), the IAID, the clock, the end, eight bytes of no meaning, the key
-- or DUID, and zeros up to 256 bytes.

-- client 1's lease until 710, saved at 110, with sequence 0
abbrev pub bound_half : List ℕ
bound_half = (0xa5 ∷ 1 ∷ 7 ∷ 0 ∷ []) ++ replicate 4 0 ++ (replicate 7 0 ++ 110 ∷ []) ++ (replicate 6 0 ++ 2 ∷ 198 ∷ []) ++ replicate 8 0 ++ client 1 ++ replicate 217 0

-- the DHCPv6 client's lease until 700, saved at 100, with sequence 2
abbrev pub bound_half6 : List ℕ
bound_half6 =
    (0xa5 ∷ 1 ∷ 10 ∷ 2 ∷ []) ++ (0 ∷ 0 ∷ 0 ∷ 1 ∷ []) ++ (replicate 7 0 ++ 100 ∷ []) ++ (replicate 6 0 ++ 2 ∷ 188 ∷ []) ++ replicate 8 0 ++ client6.duid ++ replicate 214 0

-- free, saved at 110, with sequence 1
abbrev pub free_half : List ℕ
free_half = (0xa5 ∷ 0 ∷ 0 ∷ 1 ∷ []) ++ replicate 4 0 ++ (replicate 7 0 ++ 110 ∷ []) ++ replicate 240 0

-- given to nobody until 4000, saved at 400, with sequence 0
abbrev pub barred_half : List ℕ
barred_half = (0xa5 ∷ 2 ∷ 0 ∷ 0 ∷ []) ++ replicate 4 0 ++ (replicate 6 0 ++ 1 ∷ 144 ∷ []) ++ (replicate 6 0 ++ 15 ∷ 160 ∷ []) ++ replicate 232 0

-- A region by what stands at its offsets: of two that overlap the first, and 0 elsewhere.
abbrev pub laid : List (ℕ × List ℕ) → ℕ → ℕ
laid [] i = 0
laid (x ∷ xs) i = if is_within x.0 (length x.1) i then slice_index x.1 (i - x.0) else laid xs i

-- Byte 8192 is 2. Slot 0 has the DHCPv4 pool's one address, and its halves are at 16384 and 16640; slot 16 has the DHCPv6
-- pool's, at 24576 and 24832. Both leases stand in first halves, and the second ones are closed.
abbrev pub both_bound : List (ℕ × List ℕ)
both_bound = (8192, 2 ∷ []) ∷ (16384, bound_half) ∷ (24576, bound_half6) ∷ []

-- The same in format 1, where byte 8192 is 1: the first bank has its gate, its sequence 0 and its clock, slot 0 at 32
-- and slot 16 at 1312. The second bank, at 4096, is closed.
abbrev pub both_bound_in_format_1 : List (ℕ × List ℕ)
both_bound_in_format_1 =
    (8192, 1 ∷ []) ∷ (0, 0xa5 ∷ 0 ∷ []) ∷ (8, replicate 7 0 ++ 110 ∷ []) ∷ (32, 1 ∷ 7 ∷ replicate 12 0 ++ 2 ∷ 198 ∷ client 1)
    ∷ (1312, 1 ∷ 10 ∷ 0 ∷ 0 ∷ 0 ∷ 0 ∷ 0 ∷ 1 ∷ replicate 6 0 ++ 2 ∷ 188 ∷ client6.duid) ∷ []

-- what the two slots hold, at a clock; the slots past the pools are free
abbrev pub two_slots : ℕ → Slot4 → Slot6 → Slots
two_slots clock four six = record { four = four ∷ replicate 15 S4.Free; six = six ∷ replicate 15 S6.Free; clock = clock }
