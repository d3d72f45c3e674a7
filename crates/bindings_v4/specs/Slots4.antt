-- Which book the slots of a pool show: slot i is the pool's address i, the lowest is 0.
use Rattle.std.specs.Prelude.{◌≡◌, ◌≤◌, ℕ, length, map, slice_set, List, Option, Some, None}
use Rattle.std.specs.Str.{bytes_eq}
use Rattle.slots.specs.Kept.{unoffered}
use Rattle.slots.specs.Key.{key4_cmp}
use Rattle.slots.specs.Slots.{bound_to, offered_to, leases, bars_of, AreDistinct, with_slot}
use Rattle.slots.specs.declared.holder.Holder.{Holder}
use Rattle.slots.specs.declared.holder.Holder.TheVariants.{Bound, Offered, Barred}
use Rattle.types.specs.Addr.{number4}
use Rattle.types.specs.Pool4.{IsPool4, PoolValue}
use Rattle.types.specs.Slots.{last_until}
use Rattle.types.specs.declared.slot4.Slot4.{Slot4}
use Rattle.types.specs.declared.slot4.Slot4.TheVariants as slot4
use Rattle.bindings_v4.specs.declared.decision4.Decision4.{Decision4}
use Rattle.bindings_v4.specs.declared.decision4.KeptSlot.{KeptSlot}
use Rattle.bindings_v4.specs.declared.decision4.OfferChange.{OfferChange}
use Rattle.bindings_v4.specs.declared.decision4.OfferChange.TheVariants as offer
use Rattle.bindings_v4.specs.Book4.{Book4, book4_at}
use Rattle.bindings_v4.specs.Decision4.{kept_slot, offer_change}

-- what each slot of a pool holds
abbrev pub Holders4 : Type 0
Holders4 = List (Option (Holder (List ℕ)))

-- A pool and what each of its slots holds.
pub record PoolSlots : Type 0 where
  pub pool : PoolValue
  pub slots : Holders4

-- the book of all that the slots hold, expired or not
abbrev pub book_of_slots : ℕ → Holders4 → Book4
book_of_slots first slots =
    record { bindings = leases key4_cmp bound_to first slots; offers = leases key4_cmp offered_to first slots; bars = bars_of first slots }

-- The book that a pool's slots show at a clock.
abbrev pub book4_of : ℕ → PoolSlots → Book4
book4_of clock v = book4_at clock (book_of_slots (number4 v.pool.first) v.slots)

-- the slots of this pool
pub record AreSlots (pool : PoolValue) (slots : Holders4) : Type 0 where
  pub limits : IsPool4 pool.first pool.count pool.lease
  pub size : length slots ≡ pool.count
  pub distinct : AreDistinct bytes_eq slots

abbrev pub holder_of : Slot4 → Option (Holder (List ℕ))
holder_of slot4.Free = None
holder_of (slot4.Bound key until) = Some (Bound key until)
holder_of (slot4.Barred until) = Some (Barred until)

abbrev pub with_offer : Option OfferChange → Holders4 → Holders4
with_offer None slots = slots
with_offer (Some (offer.Made slot key until)) slots = with_slot bytes_eq slot (Some (Offered key until)) slots
with_offer (Some (offer.Withdrawn slot)) slots = with_slot bytes_eq slot None slots

-- an offer that ends within the limit of what a region keeps
abbrev pub IsOfferWithin : OfferChange → Type 0
IsOfferWithin (offer.Made slot key until) = until ≤ last_until
IsOfferWithin (offer.Withdrawn slot) = Unit {0}

abbrev pub with_kept : Option KeptSlot → Holders4 → Holders4
with_kept None slots = slots
with_kept (Some kept) slots = with_slot bytes_eq kept.slot (holder_of kept.content) slots

-- each slot without its offer, live or expired; what is bound or barred stays
abbrev pub without_offers : Holders4 → Holders4
without_offers slots = map unoffered slots

-- The slots after a decision: its change of offers, and the slot that it keeps.
abbrev pub with_decision : Decision4 → PoolSlots → PoolSlots
with_decision decision v = record v { slots = with_kept (kept_slot decision.change) (with_offer (offer_change decision.change) v.slots) }

-- The slots with what a decision writes alone, where its client keeps every other slot that it has.
abbrev pub with_written_offer : Option OfferChange → Holders4 → Holders4
with_written_offer None slots = slots
with_written_offer (Some (offer.Made slot key until)) slots = slice_set slots slot (Some (Offered key until))
with_written_offer (Some (offer.Withdrawn slot)) slots = slice_set slots slot None

abbrev pub with_written_slot : Option KeptSlot → Holders4 → Holders4
with_written_slot None slots = slots
with_written_slot (Some kept) slots = slice_set slots kept.slot (holder_of kept.content)

abbrev pub with_written : Decision4 → Holders4 → Holders4
with_written decision slots = with_written_slot (kept_slot decision.change) (with_written_offer (offer_change decision.change) slots)
