-- What the table of deadlines has of each circuit. Slot s of circuit c has the number 32 c + s; a circuit's slots of the
-- DHCPv4 pool begin at 0, those of the DHCPv6 pool at 16.
use Rattle.std.specs.Prelude.{◌≡◌, ◌⊎◌, ℕ, ◌+◌, ◌-◌, ◌*◌, ◌<◌, ◌≤◌, nat_lt, if◌then◌else◌, length, map, Option, Some, None, option_map, IfSome, slice_index_or, slice_set}
use Rattle.slots.specs.Lookup.{until_of}
use Rattle.timers.specs.Deadlines.{DeadlinesValue, deadline, entry_after_sweep}
use Rattle.bindings_v4.specs.Decision4.{kept_slot, offer_change}
use Rattle.bindings_v4.specs.Slots4 as slots4
use Rattle.bindings_v4.specs.declared.decision4.KeptSlot.{KeptSlot as KeptSlot4}
use Rattle.bindings_v4.specs.declared.decision4.OfferChange.{OfferChange}
use Rattle.bindings_v4.specs.declared.decision4.OfferChange.TheVariants as offer
use Rattle.bindings_v6.specs.Slots6 as slots6
use Rattle.bindings_v6.specs.declared.decision6.KeptSlot.{KeptSlot as KeptSlot6}
use Rattle.circuit_server.specs.declared.decision.CircuitDecision.{CircuitDecision}
use Rattle.circuit_server.specs.declared.decision.CircuitDecision.TheVariants.{V4, V6}
use Rattle.circuit_server.specs.CircuitServerValue.{OpenCircuitValue}

-- until when a slot of an open circuit is held, live or expired
abbrev pub held_until : OpenCircuitValue → ℕ → Option ℕ
held_until o s =
    if nat_lt s 16 then option_map until_of (slice_index_or o.four.slots s None)
    else option_map until_of (slice_index_or o.six.slots (s - 16) None)

-- until when a slot of a circuit is held: one that is closed holds nothing
abbrev pub held_in : Option OpenCircuitValue → ℕ → Option ℕ
held_in None s = None
held_in (Some o) s = held_until o s

-- until when a slot of an open circuit is held, where it is live: where its clock has not come to that
abbrev pub live_until : OpenCircuitValue → ℕ → Option ℕ
live_until o s = entry_after_sweep o.clock (held_until o s)

-- Of a circuit whose first slot has this number: nothing while it is closed. While it is open, the deadlines that its clock
-- has not come to are those of its live slots, and each of them has its own.
abbrev pub HasDeadlines : DeadlinesValue → ℕ → Option OpenCircuitValue → Type 0
HasDeadlines table first None = (s : ℕ) → s < 32 → deadline table (first + s) ≡ None
HasDeadlines table first (Some o) = (s : ℕ) → s < 32 → entry_after_sweep o.clock (deadline table (first + s)) ≡ live_until o s

-- each deadline of a circuit is what it was, or until when its slot is held now
abbrev pub UnchangedOrUntilHeld : ℕ → DeadlinesValue → DeadlinesValue → Option OpenCircuitValue → Type 0
UnchangedOrUntilHeld first old new state = (s : ℕ) → s < 32 → (deadline new (first + s) ≡ deadline old (first + s)) ⊎ (deadline new (first + s) ≡ held_in state s)

-- ---- no public call of `dispatch` speaks of these

-- all but the 32 slots from this number on have the deadlines that they had, and no entry was looked at
pub record OtherEntriesUnchanged (first : ℕ) (old new : DeadlinesValue) : Type 0 where
  pub size : length new.slots ≡ length old.slots
  pub examined : new.examined ≡ old.examined
  pub beside : (n : ℕ) → (n < first) ⊎ (first + 32 ≤ n) → deadline new n ≡ deadline old n

-- The circuit's 32 entries are in the table, and say what its state says.
pub record HasEntries (table : DeadlinesValue) (circuit : ℕ) (state : Option OpenCircuitValue) : Type 0 where
  pub room : 32 * circuit + 32 ≤ length table.slots
  pub deadlines : HasDeadlines table (32 * circuit) state

-- The circuit's entries say what its new state says: each is what it was, or until when its slot is held now. All others are what they were.
pub record KeepsEntries (circuit : ℕ) (old new : DeadlinesValue) (state : Option OpenCircuitValue) : Type 0 where
  pub deadlines : HasDeadlines new (32 * circuit) state
  pub own : UnchangedOrUntilHeld (32 * circuit) old new state
  pub others : OtherEntriesUnchanged (32 * circuit) old new

abbrev pub swept : ℕ → DeadlinesValue → DeadlinesValue
swept now table = record table { slots = map (entry_after_sweep now) table.slots }

-- the table with what a decision makes of the deadlines of its circuit
abbrev pub with_until : ℕ → Option ℕ → DeadlinesValue → DeadlinesValue
with_until n until table = record table { slots = slice_set table.slots n until }

abbrev pub with_offered : ℕ → Option OfferChange → DeadlinesValue → DeadlinesValue
with_offered first None table = table
with_offered first (Some (offer.Made slot client until)) table = with_until (first + slot) (Some until) table
with_offered first (Some (offer.Withdrawn slot)) table = with_until (first + slot) None table

abbrev pub with_kept4 : ℕ → Option KeptSlot4 → DeadlinesValue → DeadlinesValue
with_kept4 first None table = table
with_kept4 first (Some kept) table = with_until (first + kept.slot) (option_map until_of (slots4.holder_of kept.content)) table

abbrev pub with_kept6 : ℕ → Option KeptSlot6 → DeadlinesValue → DeadlinesValue
with_kept6 first None table = table
with_kept6 first (Some kept) table = with_until (first + (16 + kept.slot)) (option_map until_of (slots6.holder_of kept.content)) table

abbrev pub with_deadlines : CircuitDecision → ℕ → DeadlinesValue → DeadlinesValue
with_deadlines (V4 made) first table = with_kept4 first (kept_slot made.decision.change) (with_offered first (offer_change made.decision.change) table)
with_deadlines (V6 made) first table = with_kept6 first made.decision.keep table

-- the slots that it keeps or offers are slots of a pool
abbrev pub IsOfferIn : OfferChange → Type 0
IsOfferIn (offer.Made slot client until) = slot < 16
IsOfferIn (offer.Withdrawn slot) = slot < 16

abbrev pub HasItsSlots : CircuitDecision → Type 0
HasItsSlots (V4 made) = IfSome (kept_slot made.decision.change) (λ kept. kept.slot < 16) × IfSome (offer_change made.decision.change) IsOfferIn
HasItsSlots (V6 made) = IfSome made.decision.keep (λ kept. kept.slot < 16)
