-- What a circuit's decision makes of it. Only proofs need this.
use Rattle.std.specs.Prelude.{◌≡◌, ℕ, ◌+◌, ◌<◌, ◌≤◌, true, Bool, is_some, length, map, List, Option, option_map, Some, IfSome, Result}
use Rattle.std.specs.Result.{result_map_both}
use Rattle.types.specs.Slots.{IsWithin4, IsWithin6}
use Rattle.types.specs.declared.discard.Discard.{Discard}
use Rattle.config.specs.CircuitPart.{CircuitPart}
use Rattle.types.specs.declared.slots.Slots.{Slots}
use Rattle.lease_disk.specs.declared.content.Content.{Content}
use Rattle.lease_disk.specs.declared.content.Content.TheVariants as content
use Rattle.lease_disk.specs.Layout.{is_format2}
use Rattle.lease_disk.specs.Recovered.{recovered}
use Rattle.lease_disk.specs.Region.{Region, IsClean}
use Rattle.lease_disk.specs.Save.{AreMarks, is_read, with_slot}
use Rattle.slots.specs.Lookup.{live}
use Rattle.bindings_v4.specs.Kept4 as kept4
use Rattle.bindings_v4.specs.Decision4.{IsOffer, kept_slot, offer_change}
use Rattle.bindings_v4.specs.Slots4 as slots4
use Rattle.bindings_v6.specs.Kept6 as kept6
use Rattle.bindings_v6.specs.Slots6 as slots6
use Rattle.replies.specs.Reply4.{reply4_bytes}
use Rattle.replies.specs.Reply6.{reply6_bytes}
use Rattle.circuit_server.specs.declared.decision.CircuitDecision.{CircuitDecision}
use Rattle.circuit_server.specs.declared.decision.CircuitDecision.TheVariants.{V4, V6}
use Rattle.circuit_server.specs.Server.{Served}
use Rattle.circuit_server.specs.CircuitServerValue.{OpenCircuitValue, counts_in, kept_slots, open_book}

-- the reply's datagram, or why there is none
abbrev pub answer_of : CircuitPart → CircuitDecision → Result (List ℕ) Discard
answer_of part (V4 made) = result_map_both (reply4_bytes part made.message) (λ why. why) made.decision.answer
answer_of part (V6 made) = result_map_both (reply6_bytes part made.forward made.message made.client) (λ why. why) made.decision.answer

-- one protocol's slots change
abbrev pub with_decision : CircuitDecision → OpenCircuitValue → OpenCircuitValue
with_decision (V4 made) o = record o { four = slots4.with_decision made.decision o.four }
with_decision (V6 made) o = record o { six = slots6.with_decision made.decision o.six }

abbrev pub is_kept : CircuitDecision → Bool
is_kept (V4 made) = is_some (kept_slot made.decision.change)
is_kept (V6 made) = is_some made.decision.keep

-- the slot of the region that is kept, and what it is to hold: those of the DHCPv6 pool begin at 16
abbrev pub kept_in : CircuitDecision → Option (ℕ × Content)
kept_in (V4 made) = option_map (λ kept. (kept.slot, content.Four kept.content)) (kept_slot made.decision.change)
kept_in (V6 made) = option_map (λ kept. (16 + kept.slot, content.Six kept.content)) made.decision.keep

-- of what a region keeps, a decision changes the slot that it keeps alone, which is one of the pool
abbrev pub KeepsItsSlot : CircuitDecision → OpenCircuitValue → Type 0
KeepsItsSlot (V4 made) o =
    (kept4.kept_slots o.clock (slots4.with_decision made.decision o.four).slots ≡ kept4.keep_in (kept_slot made.decision.change) (kept4.kept_slots o.clock o.four.slots))
    × IfSome (kept_slot made.decision.change) (λ kept. kept.slot < o.four.pool.count) × (o.four.pool.count ≤ 16) × IfSome (offer_change made.decision.change) (IsOffer o.clock o.four.pool.count)
KeepsItsSlot (V6 made) o =
    (kept6.kept_slots o.clock (slots6.with_decision made.decision o.six).slots ≡ kept6.keep_in made.decision.keep (kept6.kept_slots o.clock o.six.slots))
    × IfSome made.decision.keep (λ kept. kept.slot < o.six.pool.count) × (o.six.pool.count ≤ 16)

-- by the clock a decision changes nothing but the slots that it writes, which are slots of the pool
abbrev pub LosesNoOther : CircuitDecision → OpenCircuitValue → Type 0
LosesNoOther (V4 made) o =
    (map (live o.clock) (slots4.with_decision made.decision o.four).slots ≡ map (live o.clock) (slots4.with_written made.decision o.four.slots)) × (length o.four.slots ≡ o.four.pool.count)
LosesNoOther (V6 made) o =
    (map (live o.clock) (slots6.with_decision made.decision o.six).slots ≡ map (live o.clock) (slots6.with_written made.decision o.six.slots)) × (length o.six.slots ≡ o.six.pool.count)

-- a slot that is kept or offered is held within its limit
abbrev pub IsWithin : CircuitDecision → Type 0
IsWithin (V4 made) = IfSome (kept_slot made.decision.change) (λ kept. IsWithin4 kept.content) × IfSome (offer_change made.decision.change) slots4.IsOfferWithin
IsWithin (V6 made) = IfSome made.decision.keep (λ kept. IsWithin6 kept.content)

-- A decision that an open circuit made, of itself.
pub record FitsCircuit (decision : CircuitDecision) (o : OpenCircuitValue) : Type 0 where
  pub keeps : KeepsItsSlot decision o
  pub others : LosesNoOther decision o
  pub within : IsWithin decision

-- what an open circuit serves by a decision
abbrev pub served_by : CircuitPart → OpenCircuitValue → CircuitDecision → Served
served_by part o decision = record { answer = answer_of part decision; book = open_book (with_decision decision o); is_kept = is_kept decision }

-- an open circuit whose region keeps it but for this slot, which is to hold this
pub record IsToSave (region : Region) (s : ℕ) (changed : Content) (o : OpenCircuitValue) : Type 0 where
  pub format : is_format2 region.byte ≡ true
  pub clean : IsClean region
  pub marks : AreMarks (counts_in o) region.byte o.marks
  pub below : is_read (counts_in o) s ≡ true
  pub slots : Slots
  pub recovers : recovered (counts_in o) region.byte ≡ Some slots
  pub later : slots.clock ≤ o.clock
  pub kept : with_slot o.clock s changed slots ≡ kept_slots o
