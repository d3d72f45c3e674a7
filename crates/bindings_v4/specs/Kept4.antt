-- What of a book a region keeps, and which book the slots of a region mean.
use Rattle.std.specs.Prelude.{ℕ, ◌≤◌, List, map, slice_set, Option, Some, None}
use Rattle.std.specs.FinMap.{empty}
use Rattle.slots.specs.Kept as table
use Rattle.slots.specs.declared.holder.Holder.{Holder}
use Rattle.slots.specs.declared.holder.Holder.TheVariants.{Bound, Offered, Barred}
use Rattle.types.specs.Pool4.{PoolValue}
use Rattle.types.specs.Slots.{live4}
use Rattle.types.specs.declared.slot4.Slot4.{Slot4}
use Rattle.types.specs.declared.slot4.Slot4.TheVariants as slot4
use Rattle.types.specs.declared.slots.Slots.{Slots}
use Rattle.bindings_v4.specs.declared.decision4.KeptSlot.{KeptSlot}
use Rattle.bindings_v4.specs.Book4.{Book4}
use Rattle.bindings_v4.specs.Slots4.{Holders4, holder_of, book4_of}

-- The book without its offers, which are in memory only.
abbrev pub kept_book : Book4 → Book4
kept_book b = record b { offers = empty }

-- The book that the slots of a region mean for a pool, at their own clock: slot i is the pool's address
-- i, the lowest is 0, and what has expired is left out.
abbrev pub book4_in : PoolValue → Slots → Book4
book4_in pool region =
    book4_of region.clock (record { pool = pool; slots = map (λ slot. holder_of (live4 region.clock slot)) region.four })

-- a holder as a region writes it; an offer is in memory only
abbrev pub slot_of : Option (Holder (List ℕ)) → Slot4
slot_of None = slot4.Free
slot_of (Some (Bound key until)) = slot4.Bound key until
slot_of (Some (Offered key until)) = slot4.Free
slot_of (Some (Barred until)) = slot4.Barred until

-- what is kept of a pool's slots, 16 slots of a region: those past the pool are free
abbrev pub kept_slots : ℕ → Holders4 → List Slot4
kept_slots clock holders = map slot_of (table.kept_slots clock holders)

-- the slots of a region with the one that a decision keeps
abbrev pub keep_in : Option KeptSlot → List Slot4 → List Slot4
keep_in None slots = slots
keep_in (Some kept) slots = slice_set slots kept.slot kept.content

-- a slot that is held until this moment at most
abbrev pub EndsBy : ℕ → Slot4 → Type 0
EndsBy last slot4.Free = Unit {0}
EndsBy last (slot4.Bound key until) = until ≤ last
EndsBy last (slot4.Barred until) = until ≤ last
