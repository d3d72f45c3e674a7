-- A row of the table as a decision about slots: the change of offers, and the one slot that is kept on
-- the disk. Slot i is the pool's address i; `first` is the address of slot 0.
use Rattle.std.specs.Prelude.{ℕ, ◌+◌, ◌-◌, ◌<◌, ◌≤◌, List, Option, Some, None}
use Rattle.types.specs.declared.slot4.Slot4.TheVariants as content
use Rattle.exchange.specs.declared.request4.Reply4.{Reply4}
use Rattle.bindings_v4.specs.declared.decision4.Change4.{Change4}
use Rattle.bindings_v4.specs.declared.decision4.Change4.TheVariants as change
use Rattle.bindings_v4.specs.declared.decision4.Decision4.{Decision4}
use Rattle.bindings_v4.specs.declared.decision4.KeptSlot.{KeptSlot}
use Rattle.bindings_v4.specs.declared.decision4.OfferChange.{OfferChange}
use Rattle.bindings_v4.specs.declared.decision4.OfferChange.TheVariants as offer
use Rattle.slots.specs.Row.{Change, Unchanged, Offers, Withdraws, Binds, Bars, Frees, Row}

-- what of a change is in memory alone
abbrev pub offer_change : Change4 → Option OfferChange
offer_change change.Nothing = None
offer_change (change.Offers offer) = Some offer
offer_change (change.Keeps kept) = None

-- what of it is kept on the disk
abbrev pub kept_slot : Change4 → Option KeptSlot
kept_slot change.Nothing = None
kept_slot (change.Offers offer) = None
kept_slot (change.Keeps kept) = Some kept

-- a row's change of an address, as that of the slot that has it
abbrev pub change_of : ℕ → List ℕ → Change → Change4
change_of first client Unchanged = change.Nothing
change_of first client (Offers address until) = change.Offers (offer.Made (address - first) client until)
change_of first client (Withdraws address) = change.Offers (offer.Withdrawn (address - first))
change_of first client (Binds address until) = change.Keeps (record { slot = address - first; content = content.Bound client until })
change_of first client (Bars address until) = change.Keeps (record { slot = address - first; content = content.Barred until })
change_of first client (Frees address) = change.Keeps (record { slot = address - first; content = content.Free })

abbrev pub offer_of : ℕ → List ℕ → Change → Option OfferChange
offer_of first client change = offer_change (change_of first client change)

abbrev pub keep_of : ℕ → List ℕ → Change → Option KeptSlot
keep_of first client change = kept_slot (change_of first client change)

abbrev pub decision_of : ℕ → ℕ → List ℕ → Row Reply4 → Decision4
decision_of first clock client row =
    record { clock = clock; answer = row.answer; change = change_of first client row.change }

-- an offer is of a slot of the pool, and lasts a minute at most
abbrev pub IsOffer : ℕ → ℕ → OfferChange → Type 0
IsOffer clock count (offer.Made slot client until) = (slot < count) × (until ≤ clock + 60)
IsOffer clock count (offer.Withdrawn slot) = slot < count
