-- What of a book a region keeps, and which book the slots of a region mean.
use Rattle.std.specs.Prelude.{ℕ, ◌≤◌, List, map, slice_set, Option, Some, None}
use Rattle.slots.specs.Kept as table
use Rattle.slots.specs.declared.holder.Holder.{Holder}
use Rattle.slots.specs.declared.holder.Holder.TheVariants.{Bound, Offered, Barred}
use Rattle.types.specs.Key6.{Key6Value}
use Rattle.types.specs.Pool6.{Pool6Value}
use Rattle.types.specs.Slots.{live6}
use Rattle.types.specs.declared.slot6.Slot6.{Slot6}
use Rattle.types.specs.declared.slot6.Slot6.TheVariants as slot6
use Rattle.types.specs.declared.slots.Slots.{Slots}
use Rattle.bindings_v6.specs.declared.decision6.KeptSlot.{KeptSlot}
use Rattle.bindings_v6.specs.Book6.{Book6}
use Rattle.bindings_v6.specs.Slots6.{Holders6, holder_of, book6_of}

-- The book that the slots of a region mean for a pool, at their own clock: slot i is the pool's address
-- i, the lowest is 0, and what has expired is left out.
abbrev pub book6_in : Pool6Value → Slots → Book6
book6_in pool region =
    book6_of region.clock (record { pool = pool; slots = map (λ slot. holder_of (live6 region.clock slot)) region.six })

-- a holder as a region writes it; an offer is in memory only
abbrev pub slot_of : Option (Holder Key6Value) → Slot6
slot_of None = slot6.Free
slot_of (Some (Bound key until)) = slot6.Bound key until
slot_of (Some (Offered key until)) = slot6.Free
slot_of (Some (Barred until)) = slot6.Barred until

-- what is kept of a pool's slots, 16 slots of a region: those past the pool are free
abbrev pub kept_slots : ℕ → Holders6 → List Slot6
kept_slots clock holders = map slot_of (table.kept_slots clock holders)

-- the slots of a region with the one that a decision keeps
abbrev pub keep_in : Option KeptSlot → List Slot6 → List Slot6
keep_in None slots = slots
keep_in (Some kept) slots = slice_set slots kept.slot kept.content

-- a slot that is held until this moment at most
abbrev pub EndsBy : ℕ → Slot6 → Type 0
EndsBy last slot6.Free = Unit {0}
EndsBy last (slot6.Bound key until) = until ≤ last
EndsBy last (slot6.Barred until) = until ≤ last
