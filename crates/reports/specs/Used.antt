-- How many addresses of a pool are leased or declined. The slots stand in the pool's order, and a pool with so many
-- addresses has the first so many slots.
use Rattle.std.specs.Prelude.{ℕ, ◌==◌, Bool, true, false, List, count_by, take}
use Rattle.types.specs.declared.slot4.Slot4.{Slot4}
use Rattle.types.specs.declared.slot4.Slot4.TheVariants as S4
use Rattle.types.specs.declared.slot6.Slot6.{Slot6}
use Rattle.types.specs.declared.slot6.Slot6.TheVariants as S6

-- nobody can get the address of a slot that is leased or barred
abbrev pub is_used4 : Slot4 → Bool
is_used4 S4.Free = false
is_used4 (S4.Bound client until) = true
is_used4 (S4.Barred until) = true

abbrev pub is_used6 : Slot6 → Bool
is_used6 S6.Free = false
is_used6 (S6.Bound client until) = true
is_used6 (S6.Barred until) = true

-- how many addresses of a pool of so many are leased or declined
abbrev pub used4 : List Slot4 → ℕ → ℕ
used4 slots count = count_by is_used4 (take count slots)

abbrev pub used6 : List Slot6 → ℕ → ℕ
used6 slots count = count_by is_used6 (take count slots)

-- each of them is
abbrev pub is_full4 : List Slot4 → ℕ → Bool
is_full4 slots count = used4 slots count == count

abbrev pub is_full6 : List Slot6 → ℕ → Bool
is_full6 slots count = used6 slots count == count
