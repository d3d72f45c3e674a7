-- What is made of the parts of a batch before anything is saved. Only proofs need this.
use Rattle.std.specs.Prelude.{◌≡◌, ◌⊎◌, ℕ, ◌==◌, ◌<◌, ◌≤◌, ◌&&◌, not, Bool, true, false, if◌then◌else◌, List, [], ◌∷◌, ◌++◌, length, take, None, Some, slice_get, slice_set, Option, Result, Ok, Err}
use Rattle.std.specs.List.{filter_map, list_any}
use Rattle.types.specs.Delivery.{DeliveryValue}
use Rattle.types.specs.declared.discard.Discard.{Discard}
use Rattle.types.specs.declared.discard.Discard.TheVariants.{BatchTwice}
use Rattle.lease_disk.specs.declared.device.Fault.{Fault}
use Rattle.lease_disk.specs.declared.marks.Marks.{Marks}
use Rattle.lease_disk.specs.Device.{Device, TouchesAll, has_failed, is_in}
use Rattle.batch_saves.specs.Batch.{IsSavedPart, failing_calls_of, part_at, regions_of, shared_fault}
use Rattle.lease_disk.specs.declared.saving.Saving.{Saving}
use Rattle.config.specs.CircuitPart.{CircuitPart}
use Rattle.config.specs.Topology.{Topology}
use Rattle.requests.specs.Addressee.{addressee}
use Rattle.circuit_server.specs.Calls.{IsCalledToSave}
use Rattle.circuit_server.specs.CircuitServerValue.{OpenCircuitValue}
use Rattle.circuit_server.specs.Prepared.{IsDropped, IsPrepared, IsSettled}
use Rattle.circuit_server.specs.Ticked.{server_state}
use Rattle.dispatch.specs.Answers.{AnswersValue, answer_by, circuit_in}
use Rattle.dispatch.specs.Batch.{IsBatch, IsBatchOfLeases, IsWrittenTogether, batch_fault, batch_saves, is_named}
use Rattle.dispatch.specs.ServerValue.{AreReady, ServerValue, books_in, leases_in}
use Rattle.circuit_server.specs.declared.prepared.Prepared.{Prepared}

-- the answers with the circuit of the next part, if it is of one
abbrev pub with_circuit : Result ℕ Discard → AnswersValue → AnswersValue
with_circuit found answers = record answers { circuits = answers.circuits ++ circuit_in found ∷ [] }

abbrev pub has_named : List ℕ → ℕ → Bool
has_named named c = list_any (λ n. n == c) named

-- A part of circuit c, which no earlier one is of: that circuit's state alone changes.
pub record IsOf (topology : Topology) (named : List ℕ) (d : DeliveryValue) (c : ℕ) (old new : List (Option OpenCircuitValue)) : Type 0 where
  pub found : addressee topology d ≡ Ok c
  pub fresh : has_named named c ≡ false
  pub others : new ≡ slice_set old c (server_state new c)

-- a part that is dropped: of no circuit, of one that an earlier part is of, or of one that decided on nothing
abbrev pub IsDroppedPart : Topology → List ℕ → DeliveryValue → List (Option OpenCircuitValue) → List (Option OpenCircuitValue) → Discard → Type 0
IsDroppedPart topology named d old new why =
    ((new ≡ old) × (addressee topology d ≡ Err why))
    ⊎ ((new ≡ old) × (why ≡ BatchTwice) × ((c : ℕ) × (addressee topology d ≡ Ok c) × (has_named named c ≡ true)))
    ⊎ ((c : ℕ) × (part : CircuitPart) × IsOf topology named d c old new × (slice_get topology.circuits c ≡ Some part) × IsDropped part d (server_state old c) (server_state new c) why)

-- what was made of a part, after parts of these circuits
abbrev pub IsPart : Topology → List ℕ → DeliveryValue → List (Option OpenCircuitValue) → List (Option OpenCircuitValue) → Result (ℕ × Prepared) Discard → Type 0
IsPart topology named d old new (Err why) = IsDroppedPart topology named d old new why
IsPart topology named d old new (Ok (c, prepared)) =
    (part : CircuitPart) × IsOf topology named d c old new × (slice_get topology.circuits c ≡ Some part) × IsPrepared part d (server_state old c) (server_state new c) prepared

-- ---- all parts so far

-- the first part of circuit c, after these
pub record IsFirst (topology : Topology) (earlier : List DeliveryValue) (d : DeliveryValue) (c : ℕ) : Type 0 where
  pub found : addressee topology d ≡ Ok c
  pub first : is_named topology earlier c ≡ false

-- What was decided on a part after these, by the states before the batch and now.
abbrev pub IsDecided : Topology → List DeliveryValue → DeliveryValue → List (Option OpenCircuitValue) → List (Option OpenCircuitValue) → Result (ℕ × Prepared) Discard → Type 0
IsDecided topology earlier d old new (Err why) =
    (addressee topology d ≡ Err why)
    ⊎ ((why ≡ BatchTwice) × ((c : ℕ) × (addressee topology d ≡ Ok c) × (is_named topology earlier c ≡ true)))
    ⊎ ((c : ℕ) × (part : CircuitPart) × IsFirst topology earlier d c × (slice_get topology.circuits c ≡ Some part) × IsDropped part d (server_state old c) (server_state new c) why)
IsDecided topology earlier d old new (Ok (c, prepared)) =
    (part : CircuitPart) × IsFirst topology earlier d c × (slice_get topology.circuits c ≡ Some part) × IsPrepared part d (server_state old c) (server_state new c) prepared

-- Of the first parts of a batch, so many: the circuits that they are of, and what was decided on each. Every other circuit's state stays.
pub record AreDecided (topology : Topology) (ds : List DeliveryValue) (i : ℕ) (named : List ℕ) (old new : List (Option OpenCircuitValue)) (parts : List (Option (Result (ℕ × Prepared) Discard))) : Type 0 where
  pub size : length new ≡ length old
  pub count : length parts ≡ i
  pub few : length named ≤ i
  pub names : (c : ℕ) → has_named named c ≡ is_named topology (take i ds) c
  pub each : (j : ℕ) (d : DeliveryValue) → j < i → slice_get ds j ≡ Some d → (part : Result (ℕ × Prepared) Discard) × (slice_get parts j ≡ Some (Some part)) × IsDecided topology (take j ds) d old new part
  pub others : (c : ℕ) → is_named topology (take i ds) c ≡ false → server_state new c ≡ server_state old c

-- ---- what they save

-- what a part saves, if anything
abbrev pub saving_in : Option (Result (ℕ × Prepared) Discard) → Option Saving
saving_in (Some (Ok (c, prepared))) = prepared.saving
saving_in part = None

abbrev pub savings_of : List (Option (Result (ℕ × Prepared) Discard)) → List Saving
savings_of parts = filter_map saving_in parts

-- the places of a list that is not begun, or has so many
abbrev pub places_in : Option (List Saving) → List Saving
places_in None = []
places_in (Some places) = places

abbrev pub AreCounted : Option (List Saving) → ℕ → Type 0
AreCounted None count = count ≡ 0
AreCounted (Some places) count = (1 ≤ count) × (count ≤ 16)

-- These were saved together.
pub record AreSavedTogether (tells : Bool) (was now : List Saving) (old new : Device) : Type 0 where
  pub count : length now ≡ length was
  pub each : (n : ℕ) → n < length was → IsSavedPart tells (shared_fault (failing_calls_of old was)) (part_at was n) (part_at now n) old new
  pub frame : TouchesAll tells (regions_of was) old new
  pub others : (q : ℕ) → is_in (regions_of was) q ≡ false → new.failures q ≡ old.failures q
  pub nothing : was ≡ [] → new ≡ old

-- ---- how they are answered

-- what became of a part's save, where it is the n-th
abbrev pub saved_by : Option Saving → Saving → Result (Option Marks) Fault
saved_by None now = Ok None
saved_by (Some was) now = if now.failed == 0 then Ok (Some now.marks) else Err (record {})

-- how many of the first parts save something: the place of the next one's save
abbrev pub place_of : List (Option (Result (ℕ × Prepared) Discard)) → ℕ → ℕ
place_of parts j = length (savings_of (take j parts))

-- The part's circuit was settled, by its save and the circuit's state before.
pub record IsSettledSo (topology : Topology) (prepared : Prepared) (saved : Result (Option Marks) Fault) (c : ℕ) (old new : List (Option OpenCircuitValue)) (answer : Result (List ℕ) Discard) : Type 0 where
  pub part : CircuitPart
  pub there : slice_get topology.circuits c ≡ Some part
  pub result : Result (Unit {0}) Discard
  pub out : List ℕ
  pub settled : IsSettled part prepared saved (server_state old c) (server_state new c) result out
  pub given : answer ≡ answer_by result out

abbrev pub IsAnswered : Topology → Saving → List (Option OpenCircuitValue) → List (Option OpenCircuitValue) → Result (List ℕ) Discard → Result (ℕ × Prepared) Discard → Type 0
IsAnswered topology saving old new answer (Err why) = answer ≡ Err why
IsAnswered topology saving old new answer (Ok (c, prepared)) = IsSettledSo topology prepared (saved_by prepared.saving saving) c old new answer

-- whether a part is to be settled, and is of circuit c
abbrev pub is_of : ℕ → Option (Result (ℕ × Prepared) Discard) → Bool
is_of c (Some (Ok (circuit, prepared))) = circuit == c
is_of c part = false

-- Each part says something, of a circuit that there is, and no two are to be settled of one.
pub record AreToSettle (topology : Topology) (parts : List (Option (Result (ℕ × Prepared) Discard))) : Type 0 where
  pub each : (j : ℕ) → j < length parts → (part : Result (ℕ × Prepared) Discard) × (slice_get parts j ≡ Some (Some part))
  pub exist : (j c : ℕ) (prepared : Prepared) → slice_get parts j ≡ Some (Some (Ok (c, prepared))) → c < length topology.circuits
  pub apart : (j c : ℕ) (prepared : Prepared) → slice_get parts j ≡ Some (Some (Ok (c, prepared))) → list_any (is_of c) (take j parts) ≡ false

-- The first of the parts were answered so, by their saves. Every other circuit's state stays.
pub record AreAnswered (topology : Topology) (parts : List (Option (Result (ℕ × Prepared) Discard))) (savings : List Saving) (i : ℕ) (old new : List (Option OpenCircuitValue)) (answers : List (Result (List ℕ) Discard)) : Type 0 where
  pub size : length new ≡ length old
  pub count : length answers ≡ i
  pub each : (j : ℕ) (part : Result (ℕ × Prepared) Discard) → j < i → slice_get parts j ≡ Some (Some part)
      → (answer : Result (List ℕ) Discard) × (slice_get answers j ≡ Some answer) × IsAnswered topology (part_at savings (place_of parts j)) old new answer part
  pub others : (c : ℕ) → list_any (is_of c) (take i parts) ≡ false → server_state new c ≡ server_state old c

-- ---- all together

-- What the clauses of a batch say.
pub record IsReceivedBatch (tells : Bool) (ds : List DeliveryValue) (given : List (Result (List ℕ) Discard)) (server later_server : ServerValue) (device later_device : Device) : Type 0 where
  pub answers : IsBatch server.topology ds (has_failed device later_device) (books_in server) (books_in later_server) given
  pub frame : IsWrittenTogether tells (batch_saves server.topology ds (books_in server)) device later_device
  pub calls : IsCalledToSave (batch_saves server.topology ds (books_in server)) device later_device
  pub fails : tells ≡ true → (r : ℕ) → has_failed device later_device r ≡ (is_in (batch_saves server.topology ds (books_in server)) r && not (batch_fault device.failing_call (batch_saves server.topology ds (books_in server)) r == 0))
  pub leases : tells ≡ true → IsBatchOfLeases server.topology ds (batch_fault device.failing_call (batch_saves server.topology ds (books_in server))) (leases_in device.region server) (leases_in later_device.region later_server)
  pub ready : tells ≡ true → AreReady later_device.region later_server
