-- Where a region keeps its slots, in either format, and the bytes of a formatted one. Numbers are big-endian.
use Rattle.std.specs.Prelude.{ℕ, ◌+◌, ◌-◌, ◌*◌, ◌%◌, ◌==◌, Bool, ◌&&◌, nat_le, nat_lt, if◌then◌else◌, List, slice_index}
use Rattle.lease_disk.specs.declared.half.Half.{Half}
use Rattle.lease_disk.specs.declared.half.Half.TheVariants.{First, Second}

-- the byte of a gate that is open; any other is closed
abbrev pub gate_open : ℕ
gate_open = 0xa5

-- Slots 0 to 15 are the DHCPv4 pool's addresses in order, 16 to 31 the DHCPv6 pool's.

-- byte 8192 is the format: 2 means format 2, any other value format 1
abbrev pub is_format2 : (ℕ → ℕ) → Bool
is_format2 region = region 8192 == 2

-- In format 2 each slot has two halves of 256 bytes, which begin with their gates.
abbrev pub half_at : ℕ → Half → ℕ
half_at s First = 16384 + 512 * s
half_at s Second = 16640 + 512 * s

-- the bytes of a slot's half, by their offset in the half
abbrev pub half2 : (ℕ → ℕ) → ℕ → Half → ℕ → ℕ
half2 region s h i = if nat_lt i 256 then region (half_at s h + i) else 0

-- In format 1 a region has two banks of 4096 bytes, which begin with their gates.
abbrev pub bank_at : Half → ℕ
bank_at First = 0
bank_at Second = 4096

-- a slot in a bank: 80 bytes for DHCPv4, 152 for DHCPv6
abbrev pub in_bank : ℕ → ℕ
in_bank s = if nat_lt s 16 then 32 + 80 * s else 1312 + 152 * (s - 16)

-- where a bank keeps for a slot what a half has at an offset: gate, state, length, sequence, IAID, clock, until, and the
-- key or DUID
abbrev pub bank_place : ℕ → ℕ → ℕ
bank_place s i =
    if i == 0 then 0
    else if i == 3 then 1
    else if nat_lt i 3 then in_bank s + (i - 1)
    else if nat_lt i 8 then in_bank s + i
    else if nat_lt i 16 then i
    else if nat_lt i 24 then in_bank s + (i - 8)
    else in_bank s + (i - 16)

-- what a bank has of a slot, as a half: gate, sequence and clock are the bank's
abbrev pub half1 : (ℕ → ℕ) → ℕ → Half → ℕ → ℕ
half1 region s h i = if nat_lt i 256 then region (bank_at h + bank_place s i) else 0

-- in either format
abbrev pub half : (ℕ → ℕ) → ℕ → Half → ℕ → ℕ
half region s h = if is_format2 region then half2 region s h else half1 region s h

-- a region of format 2 with these halves of all slots, one after the other
abbrev pub with_halves : List ℕ → ℕ → ℕ
with_halves halves i = if nat_lt i 16384 then 2 else slice_index halves (i - 16384)

-- formatted in format 2: each slot's first half open with sequence 0, clock 0 and free; all else 0
abbrev pub formatted : ℕ → ℕ
formatted i = if i == 8192 then 2 else if nat_le 16384 i && nat_lt i 32768 && i % 512 == 0 then 0xa5 else 0

-- formatted in format 1: the first bank open with sequence 0, clock 0 and all slots free; all else 0
abbrev pub formatted_old : ℕ → ℕ
formatted_old i = if i == 0 then 0xa5 else if i == 8192 then 1 else 0
