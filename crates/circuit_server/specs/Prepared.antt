-- What is made of a datagram of an open circuit before it is saved, and what comes of it then. Only contracts between crates cite this.
use Rattle.std.specs.Prelude.{◌≡◌, ◌==◌, ◌+◌, ◌≤◌, ℕ, Bool, true, List, [], Option, Some, None, option_map, Result, Ok, Err, IfOk, IfSome, OnOk, is_ok, is_some}
use Rattle.types.specs.Delivery.{DeliveryValue}
use Rattle.types.specs.declared.discard.Discard.{Discard}
use Rattle.types.specs.declared.discard.Discard.TheVariants.{DiskFault}
use Rattle.config.specs.CircuitPart.{CircuitPart}
use Rattle.lease_disk.specs.declared.content.Content.{Content}
use Rattle.lease_disk.specs.declared.device.Fault.{Fault}
use Rattle.lease_disk.specs.declared.marks.Marks.{Marks}
use Rattle.lease_disk.specs.Book.{IsBook}
use Rattle.lease_disk.specs.Device.{Device, Touches}
use Rattle.lease_disk.specs.Region.{Region, effective, faults_after}
use Rattle.lease_disk.specs.Save.{IsSaveOf}
use Rattle.batch_saves.specs.Batch.{IsReady}
use Rattle.lease_disk.specs.declared.saving.Saving.{Saving}
use Rattle.circuit_server.specs.Answered.{IsAnswer, answered, circuit_saves}
use Rattle.circuit_server.specs.CircuitDecision.{IsWithin, KeepsItsSlot, answer_of, kept_in, served_by, with_decision}
use Rattle.circuit_server.specs.CircuitServerValue.{HasPools, IsReadyFor, OpenCircuitValue, counts_in, kept_slots, leases_of, open_book}
use Rattle.circuit_server.specs.Leases.{after_datagram, book_in}
use Rattle.circuit_server.specs.Server.{kept_book, served}
use Rattle.circuit_server.specs.Ticked.{open_at}
use Rattle.circuit_server.specs.declared.decision.CircuitDecision.{CircuitDecision}
use Rattle.circuit_server.specs.declared.prepared.Prepared.{Prepared}

-- the save of a slot that is to hold this
abbrev pub saving_of : CircuitPart → OpenCircuitValue → ℕ × Content → Saving
saving_of part o kept = record { region = part.region; clock = o.clock; slot = kept.0; content = kept.1; marks = o.marks; failed = 0 }

-- A decision's changes of the books are made, and this is to be saved.
pub record IsApplied (part : CircuitPart) (decision : CircuitDecision) (before : OpenCircuitValue) (new : Option OpenCircuitValue) (saving : Option Saving) : Type 0 where
  pub after : OpenCircuitValue
  pub is : new ≡ Some after
  pub decided : after ≡ with_decision decision before
  pub saving_is : saving ≡ option_map (saving_of part after) (kept_in decision)
  -- what is saved is a book, its own
  pub book : (kept : ℕ × Content) → kept_in decision ≡ Some kept → IsBook (counts_in after) (kept_slots after)
  pub means : (kept : ℕ × Content) → kept_in decision ≡ Some kept → book_in part (kept_slots after) ≡ kept_book (open_book after)

-- The device is ready for the save of whatever a decision of this circuit calls for.
abbrev pub CanSaveDecision : Bool → Device → CircuitPart → CircuitDecision → Option OpenCircuitValue → Type 0
CanSaveDecision tells device part decision old =
    (new : Option OpenCircuitValue) (saving : Option Saving) → HasPools part new → ((before : OpenCircuitValue) → old ≡ Some before → IsApplied part decision before new saving) → IfSome saving (IsReady tells device)

-- An open circuit decided on a datagram: its books have the decision's changes, and this is to be saved.
pub record IsPrepared (part : CircuitPart) (d : DeliveryValue) (old new : Option OpenCircuitValue) (prepared : Prepared) : Type 0 where
  pub before : OpenCircuitValue
  pub after : OpenCircuitValue
  pub was : old ≡ Some before
  pub is : new ≡ Some after
  pub decided : after ≡ with_decision prepared.decision (open_at d.moment before)
  pub serves : served part d (open_book before) ≡ served_by part (open_at d.moment before) prepared.decision
  pub saving : prepared.saving ≡ option_map (saving_of part after) (kept_in prepared.decision)
  pub keeps : KeepsItsSlot prepared.decision (open_at d.moment before)
  pub within : IsWithin prepared.decision
  pub pools : HasPools part new
  -- its region is as ready at the datagram's moment as it was before
  pub ready : (region : Region) → IsReadyFor region old → IsReadyFor region (Some (open_at d.moment before))
  -- what is saved is a book, its own
  pub book : (kept : ℕ × Content) → kept_in prepared.decision ≡ Some kept → IsBook (counts_in after) (kept_slots after)
  pub means : (kept : ℕ × Content) → kept_in prepared.decision ≡ Some kept → book_in part (kept_slots after) ≡ kept_book (open_book after)

-- A closed circuit, or one that decided on nothing: it drops the datagram, whatever the device does, and nothing is saved.
pub record IsDropped (part : CircuitPart) (d : DeliveryValue) (old new : Option OpenCircuitValue) (why : Discard) : Type 0 where
  pub answers : (fails : Bool) → answered part d fails (option_map open_book old) ≡ record { answer = Err why; book = option_map open_book new }
  pub saves : circuit_saves d (Some part) (Some (option_map open_book old)) ≡ None
  pub leases : (region : Region) (fault : ℕ) → leases_of (λ r. region) (record { part = part; state = new }) ≡ after_datagram part d fault (leases_of (λ r. region) (record { part = part; state = old }))
  pub ready : (region : Region) → IsReadyFor region old → IsReadyFor region new

-- the marks after a save, by what it returned
abbrev pub marks_by : Result (Option Marks) Fault → Marks → Marks
marks_by (Ok (Some marks)) known = marks
marks_by result known = known

-- A slot was saved alone: its k-th call failed, or none.
pub record IsSavedAlone (tells : Bool) (result : Result (Option Marks) Fault) (old new : Device) (s : Saving) : Type 0 where
  pub saved : tells ≡ true → IsSaveOf (effective 6 (old.failing_call s.region)) s.clock s.slot s.content s.marks (marks_by result s.marks) (old.region s.region) (new.region s.region)
  pub answer : tells ≡ true → is_ok result ≡ (effective 6 (old.failing_call s.region) == 0)
  pub marks : IfOk result (λ marks. is_some marks ≡ true)
  pub frame : Touches tells s.region old new
  pub writes : OnOk result (new.writes ≡ old.writes + 6)
  pub most : new.writes ≤ old.writes + 6
  pub failures : new.failures ≡ faults_after s.region result old.failures

-- A decision's changes of the books are made, and what has to be saved, if anything, was saved alone.
pub record IsAppliedAndSaved (tells : Bool) (part : CircuitPart) (decision : CircuitDecision) (old new : Option OpenCircuitValue) (result : Result (Option Marks) Fault) (was later : Device) : Type 0 where
  pub saving : Option Saving
  pub applied : (before : OpenCircuitValue) → old ≡ Some before → IsApplied part decision before new saving
  pub nothing : saving ≡ None → (result ≡ Ok None) × (later ≡ was)
  pub saved : IfSome saving (IsSavedAlone tells result was later)

-- an open circuit with these marks
abbrev pub with_marks : Option Marks → Option OpenCircuitValue → Option OpenCircuitValue
with_marks None state = state
with_marks (Some marks) state = option_map (λ (o : OpenCircuitValue). record o { marks = marks }) state

-- After the save, done or not: the reply, or the circuit is closed.
abbrev pub IsDecisionSettled : CircuitPart → CircuitDecision → Result (Option Marks) Fault → Option OpenCircuitValue → Option OpenCircuitValue → Result (Unit {0}) Discard → List ℕ → Type 0
IsDecisionSettled part decision (Ok marks) old new result out = (new ≡ with_marks marks old) × IsAnswer (answer_of part decision) result out
IsDecisionSettled part decision (Err fault) old new result out = (new ≡ None) × (result ≡ Err DiskFault) × (out ≡ [])

abbrev pub IsSettled : CircuitPart → Prepared → Result (Option Marks) Fault → Option OpenCircuitValue → Option OpenCircuitValue → Result (Unit {0}) Discard → List ℕ → Type 0
IsSettled part prepared = IsDecisionSettled part prepared.decision
