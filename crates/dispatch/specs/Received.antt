-- What the server makes of any datagram.
use Rattle.std.specs.Prelude.{ℕ, Bool, List, Option, Some, None, slice_get, slice_set, Result, Ok, Err}
use Rattle.types.specs.Delivery.{DeliveryValue}
use Rattle.types.specs.declared.discard.Discard.{Discard}
use Rattle.types.specs.declared.discard.Discard.TheVariants.{UnknownCircuit}
use Rattle.config.specs.CircuitPart.{CircuitPart}
use Rattle.config.specs.Topology.{Topology}
use Rattle.requests.specs.Addressee.{addressee}
use Rattle.circuit_server.specs.Answered.{Answered, answered, circuit_saves}
use Rattle.circuit_server.specs.Leases.{Leases, after_datagram}
use Rattle.circuit_server.specs.Server.{Book}

pub record Received : Type 0 where
  pub answer : Result (List ℕ) Discard
  pub books : List (Option Book)

abbrev pub drop_all : Discard → List (Option Book) → Received
drop_all why books = record { answer = Err why; books = books }

-- Circuit c's server serves it, and every other circuit's book stays.
abbrev pub with_answered : ℕ → List (Option Book) → Answered → Received
with_answered c books done = record { answer = done.answer; books = slice_set books c done.book }

abbrev pub circuit_answered : ℕ → DeliveryValue → (ℕ → Bool) → List (Option Book) → Option CircuitPart → Option (Option Book) → Received
circuit_answered c d fails books (Some part) (Some book) = with_answered c books (answered part d (fails part.region) book)
circuit_answered c d fails books part book = drop_all UnknownCircuit books

-- What is of no circuit changes nothing.
abbrev pub addressee_answered : Topology → DeliveryValue → (ℕ → Bool) → List (Option Book) → Result ℕ Discard → Received
addressee_answered topology d fails books (Err why) = drop_all why books
addressee_answered topology d fails books (Ok c) = circuit_answered c d fails books (slice_get topology.circuits c) (slice_get books c)

-- `fails` says of which regions a save fails.
abbrev pub received : Topology → DeliveryValue → (ℕ → Bool) → List (Option Book) → Received
received topology d fails books = addressee_answered topology d fails books (addressee topology d)

-- ---- what is written

abbrev pub addressee_saves : Topology → DeliveryValue → List (Option Book) → Result ℕ Discard → Option ℕ
addressee_saves topology d books (Err why) = None
addressee_saves topology d books (Ok c) = circuit_saves d (slice_get topology.circuits c) (slice_get books c)

-- The region that a datagram's save writes to, whether it fails or not; None where nothing is written.
abbrev pub received_saves : Topology → DeliveryValue → List (Option Book) → Option ℕ
received_saves topology d books = addressee_saves topology d books (addressee topology d)

-- ---- the leases of all circuits

abbrev pub leases_with : ℕ → DeliveryValue → (ℕ → ℕ) → List Leases → Option CircuitPart → Option Leases → List Leases
leases_with c d faults all (Some part) (Some l) = slice_set all c (after_datagram part d (faults part.region) l)
leases_with c d faults all part l = all

abbrev pub addressee_leases : Topology → DeliveryValue → (ℕ → ℕ) → List Leases → Result ℕ Discard → List Leases
addressee_leases topology d faults all (Err why) = all
addressee_leases topology d faults all (Ok c) = leases_with c d faults all (slice_get topology.circuits c) (slice_get all c)

-- Only the leases of the datagram's circuit change. `faults` says for each region which of the device's
-- next calls fails.
abbrev pub received_leases : Topology → DeliveryValue → (ℕ → ℕ) → List Leases → List Leases
received_leases topology d faults all = addressee_leases topology d faults all (addressee topology d)
