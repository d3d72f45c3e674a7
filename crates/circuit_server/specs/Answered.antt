-- What a circuit answers to one of its datagrams, and where it saves.
use Rattle.std.specs.Prelude.{◌≡◌, ℕ, ◌==◌, ◌&&◌, Bool, not, false, List, [], Option, Some, None, Result, Ok, Err, if◌then◌else◌}
use Rattle.types.specs.Delivery.{DeliveryValue}
use Rattle.types.specs.declared.discard.Discard.{Discard}
use Rattle.types.specs.declared.discard.Discard.TheVariants.{CircuitClosed, DiskFault}
use Rattle.lease_disk.specs.Region.{effective}
use Rattle.config.specs.CircuitPart.{CircuitPart}
use Rattle.circuit_server.specs.Server.{Book, Served, served}

-- The reply's datagram, or why there is none; and the book after it, None where the circuit is closed.
pub record Answered : Type 0 where
  pub answer : Result (List ℕ) Discard
  pub book : Option Book

-- A reply leaves after the save, and a save that fails closes the circuit.
abbrev pub after_save : Bool → Served → Answered
after_save fails done =
    if done.is_kept && fails then record { answer = Err DiskFault; book = None }
    else record { answer = done.answer; book = Some done.book }

-- A datagram of a circuit, where its save fails or does not. A closed circuit answers nothing.
abbrev pub answered : CircuitPart → DeliveryValue → Bool → Option Book → Answered
answered part d fails None = record { answer = Err CircuitClosed; book = None }
answered part d fails (Some b) = after_save fails (served part d b)

-- ---- what is written

-- the region of a circuit, where something is saved
abbrev pub saves : CircuitPart → Served → Option ℕ
saves part done = if done.is_kept then Some part.region else None

abbrev pub circuit_saves : DeliveryValue → Option CircuitPart → Option (Option Book) → Option ℕ
circuit_saves d (Some part) (Some (Some b)) = saves part (served part d b)
circuit_saves d part book = None

-- Whether the save fails, and is to region r, where `faults` says for each region which of the device's next calls fails.
abbrev pub fails_at : (ℕ → ℕ) → Option ℕ → ℕ → Bool
fails_at faults None r = false
fails_at faults (Some region) r = region == r && not (effective 6 (faults region) == 0)

-- A result with what `out` then holds is this answer.
abbrev pub IsAnswer : Result (List ℕ) Discard → Result (Unit {0}) Discard → List ℕ → Type 0
IsAnswer (Ok bytes) result out = (result ≡ Ok tt) × (out ≡ bytes)
IsAnswer (Err why) result out = (result ≡ Err why) × (out ≡ [])
