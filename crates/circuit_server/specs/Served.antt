-- What comes of a datagram of a circuit, over any device.
use Rattle.std.specs.Prelude.{◌≡◌, ℕ, Bool, true, List, Option, Some, option_map, Result}
use Rattle.types.specs.Delivery.{DeliveryValue}
use Rattle.types.specs.declared.discard.Discard.{Discard}
use Rattle.config.specs.CircuitPart.{CircuitPart}
use Rattle.lease_disk.specs.Device.{Device, Touches, WritesAt, has_failed}
use Rattle.circuit_server.specs.Answered.{Answered, IsAnswer, answered, circuit_saves, fails_at}
use Rattle.circuit_server.specs.Calls.{IsCalledToSaveAt}
use Rattle.circuit_server.specs.CircuitServerValue.{HasPools, IsReadyFor, OpenCircuitValue, leases_of, open_book}
use Rattle.circuit_server.specs.Leases.{after_datagram}

-- the region that is saved to, if any
abbrev saved_region : CircuitPart → DeliveryValue → Option OpenCircuitValue → Option ℕ
saved_region part d old = circuit_saves d (Some part) (Some (option_map open_book old))

-- the answer and the book after it, by whether a call of the circuit's region failed meanwhile
abbrev answered_over : Device → Device → CircuitPart → DeliveryValue → Option OpenCircuitValue → Answered
answered_over was later part d old = answered part d (has_failed was later part.region) (option_map open_book old)

-- What comes of a datagram of a circuit of this part: the answer, the circuit's state and what the device did.
pub record IsServed (tells : Bool) (part : CircuitPart) (d : DeliveryValue) (old new : Option OpenCircuitValue) (result : Result (Unit {0}) Discard) (out : List ℕ) (was later : Device) : Type 0 where
  pub pools : HasPools part new
  pub answer : IsAnswer (answered_over was later part d old).answer result out
  pub book : option_map open_book new ≡ (answered_over was later part d old).book
  -- where the device tells: which call fails, what the region then holds, and that it can be saved to again
  pub fails : tells ≡ true → (r : ℕ) → has_failed was later r ≡ fails_at was.failing_call (saved_region part d old) r
  pub leases : tells ≡ true
      → leases_of later.region (record { part = part; state = new }) ≡ after_datagram part d (was.failing_call part.region) (leases_of was.region (record { part = part; state = old }))
  pub ready : tells ≡ true → IsReadyFor (later.region part.region) new
  pub writes : WritesAt tells (saved_region part d old) was later
  pub frame : Touches tells part.region was later
  pub calls : IsCalledToSaveAt (saved_region part d old) was later
