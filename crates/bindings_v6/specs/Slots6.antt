-- Which book the slots of a pool show: slot i is the pool's address i, the lowest is 0.
use Rattle.std.specs.Prelude.{◌≡◌, ℕ, length, slice_index_or, slice_set, List, Option, Some, None}
use Rattle.slots.specs.Key.{key6_cmp}
use Rattle.slots.specs.Slots.{bound_to, offered_to, leases, bars_of, AreDistinct, with_slot}
use Rattle.slots.specs.declared.holder.Holder.{Holder}
use Rattle.slots.specs.declared.holder.Holder.TheVariants.{Bound, Barred}
use Rattle.types.specs.Addr.{number6}
use Rattle.types.specs.Key6.{Key6Value, same_key6}
use Rattle.types.specs.Pool6.{IsPool6, Pool6Value}
use Rattle.types.specs.declared.slot6.Slot6.{Slot6}
use Rattle.types.specs.declared.slot6.Slot6.TheVariants as slot6
use Rattle.bindings_v6.specs.declared.decision6.Decision6.{Decision6}
use Rattle.bindings_v6.specs.declared.decision6.KeptSlot.{KeptSlot}
use Rattle.bindings_v6.specs.Book6.{Book6, book6_at}

-- what each slot of a pool holds
abbrev pub Holders6 : Type 0
Holders6 = List (Option (Holder Key6Value))

-- A pool and what each of its slots holds.
pub record PoolSlots : Type 0 where
  pub pool : Pool6Value
  pub slots : Holders6

-- the book of all that the slots hold, expired or not
abbrev pub book_of_slots : ℕ → Holders6 → Book6
book_of_slots first slots = record { bindings = leases key6_cmp bound_to first slots; bars = bars_of first slots }

-- The book that a pool's slots show at a clock.
abbrev pub book6_of : ℕ → PoolSlots → Book6
book6_of clock v = book6_at clock (book_of_slots (number6 v.pool.first) v.slots)

-- no slot is offered: DHCPv6 has bindings and bars alone
abbrev pub HaveNoOffers : Holders6 → Type 0
HaveNoOffers slots = (i : ℕ) → offered_to (slice_index_or slots i None) ≡ None

-- the slots of this pool
pub record AreSlots (pool : Pool6Value) (slots : Holders6) : Type 0 where
  pub limits : IsPool6 pool.first pool.count pool.lease
  pub size : length slots ≡ pool.count
  pub distinct : AreDistinct same_key6 slots
  pub no_offers : HaveNoOffers slots

abbrev pub holder_of : Slot6 → Option (Holder Key6Value)
holder_of slot6.Free = None
holder_of (slot6.Bound key until) = Some (Bound key until)
holder_of (slot6.Barred until) = Some (Barred until)

abbrev pub with_kept : Option KeptSlot → Holders6 → Holders6
with_kept None slots = slots
with_kept (Some kept) slots = with_slot same_key6 kept.slot (holder_of kept.content) slots

-- The slots after a decision: with the slot that it keeps.
abbrev pub with_decision : Decision6 → PoolSlots → PoolSlots
with_decision decision v = record v { slots = with_kept decision.keep v.slots }

-- The slots with what a decision writes alone, where its client keeps every other slot that it has.
abbrev pub with_written_slot : Option KeptSlot → Holders6 → Holders6
with_written_slot None slots = slots
with_written_slot (Some kept) slots = slice_set slots kept.slot (holder_of kept.content)

abbrev pub with_written : Decision6 → Holders6 → Holders6
with_written decision slots = with_written_slot decision.keep slots
