-- How many addresses were declined between two looks at the slots of a circuit.
use Rattle.std.specs.Prelude.{ℕ, ◌+◌, ◌==◌, Bool, true, false, not, List, count_by, Option, Some, None}
use Rattle.std.specs.List.{zip}
use Rattle.types.specs.declared.slot4.Slot4.{Slot4}
use Rattle.types.specs.declared.slot4.Slot4.TheVariants as S4
use Rattle.types.specs.declared.slot6.Slot6.{Slot6}
use Rattle.types.specs.declared.slot6.Slot6.TheVariants as S6
use Rattle.types.specs.declared.slots.Slots.{Slots}
use Rattle.counts.specs.Counts.{more_by}

-- a slot was declined: it is barred at the later look, and did not have that bar, which is one until the same moment,
-- at the earlier one
abbrev pub is_declined4 : Slot4 → Slot4 → Bool
is_declined4 before S4.Free = false
is_declined4 before (S4.Bound client until) = false
is_declined4 S4.Free (S4.Barred until) = true
is_declined4 (S4.Bound client ends) (S4.Barred until) = true
is_declined4 (S4.Barred earlier) (S4.Barred until) = not (earlier == until)

abbrev pub is_declined6 : Slot6 → Slot6 → Bool
is_declined6 before S6.Free = false
is_declined6 before (S6.Bound client until) = false
is_declined6 S6.Free (S6.Barred until) = true
is_declined6 (S6.Bound client ends) (S6.Barred until) = true
is_declined6 (S6.Barred earlier) (S6.Barred until) = not (earlier == until)

-- how many slots were, each beside what it held at the earlier look
abbrev pub declined4 : List Slot4 → List Slot4 → ℕ
declined4 old new = count_by (λ slot. is_declined4 slot.0 slot.1) (zip old new)

abbrev pub declined6 : List Slot6 → List Slot6 → ℕ
declined6 old new = count_by (λ slot. is_declined6 slot.0 slot.1) (zip old new)

-- how many of a circuit's slots were, of both pools
abbrev pub declined_between : Slots → Slots → ℕ
declined_between old new = declined4 old.four new.four + declined6 old.six new.six

-- how many were declined in all after a look, by how many had been before it, up to the greatest 64-bit number; no more
-- where the circuit had no slots at the look before
abbrev pub declined_after : Option Slots → Slots → ℕ → ℕ
declined_after None new before = before
declined_after (Some old) new before = more_by (declined_between old new) before
