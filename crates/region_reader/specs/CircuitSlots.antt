-- What a circuit's region says.
use Rattle.std.specs.Prelude.{◌≡◌, ℕ, List, [], ◌∷◌, Some, None, Result, Ok, Err, slice_index}
use Rattle.types.specs.declared.slots.Slots.{Slots}
use Rattle.config.specs.CircuitPart.{CircuitPart}
use Rattle.lease_disk.specs.Recovered.{recovered}
use Rattle.region_reader.specs.declared.closed.Closed.{Closed}
use Rattle.region_reader.specs.declared.closed.Closed.TheVariants.{Damaged, Unreadable, Busy}
use Rattle.region_reader.specs.Steady.{IsSteady, AreUnsteady}

-- The region was read until it had these bytes twice in a row, and the slots are those that they mean; it is damaged
-- where they mean none, and nothing is known of it where no two readings in a row were equal.
abbrev pub AreCircuitSlots : CircuitPart → List ℕ → List (ℕ × List ℕ) → List (ℕ × List ℕ) → Result Slots Closed → Type 0
AreCircuitSlots part bytes before after (Ok slots) =
    IsSteady part.region bytes before after × (recovered (part.count4 ∷ part.count6 ∷ []) (slice_index bytes) ≡ Some slots)
AreCircuitSlots part bytes before after (Err Damaged) =
    IsSteady part.region bytes before after × (recovered (part.count4 ∷ part.count6 ∷ []) (slice_index bytes) ≡ None)
AreCircuitSlots part bytes before after (Err Unreadable) = AreUnsteady part.region before after
AreCircuitSlots part bytes before after (Err Busy) = AreUnsteady part.region before after
