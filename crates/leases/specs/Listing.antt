-- What one circuit adds to a listing.
use Rattle.std.specs.Prelude.{◌≡◌, ℕ, List, Result, Ok, Err, true, String}
use Rattle.std.specs.declared.alloc.Global.{Global}
use Rattle.types.specs.declared.slots.Slots.{Slots}
use Rattle.config.specs.CircuitPart.{CircuitPart}
use Rattle.lease_list.specs.declared.form.Form.{Form}
use Rattle.lease_list.specs.declared.form.What.{What}
use Rattle.region_reader.specs.declared.closed.Closed.{Closed}
use Rattle.region_reader.specs.declared.closed.Closed.TheVariants.{Damaged, Unreadable, Busy}
use Rattle.region_reader.specs.CircuitSlots.{AreCircuitSlots}
use Rattle.lease_list.specs.Listing.{AreLines}
use Rattle.leases.specs.declared.Noted.{Noted}

-- what is noted after one circuit more: whether a circuit was closed, and whether one was busy
abbrev pub with_found : Noted → Result Slots Closed → Noted
with_found noted (Ok slots) = noted
with_found noted (Err Damaged) = record noted { is_closed = true }
with_found noted (Err Unreadable) = record noted { is_closed = true }
with_found noted (Err Busy) = record noted { is_busy = true }

-- what was noted stays so
pub record Keeps (old new : Noted) : Type 0 where
  pub closed : old.is_closed ≡ true → new.is_closed ≡ true
  pub busy : old.is_busy ≡ true → new.is_busy ≡ true

-- The lines are the circuit's by the readings of its region; where it was closed or busy, that is noted.
pub record HasListed (part : CircuitPart) (at : ℕ) (what : What) (form : Form) (bytes : List ℕ) (before after : List (ℕ × List ℕ)) (was_noted is_noted : Noted) (lines : List (String Global)) : Type 0 where
  pub found : Result Slots Closed
  pub read : AreCircuitSlots part bytes before after found
  pub listed : AreLines part at what form found lines
  pub noted : is_noted ≡ with_found was_noted found
