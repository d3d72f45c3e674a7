-- What the server makes of the datagrams that a turn takes from its sockets.
use Rattle.std.specs.Prelude.{◌≡◌, ℕ, zero, suc, Bool, true, false, List, [], ◌∷◌, ◌++◌, Option, Some, None, slice_get, Result, Err}
use Rattle.types.specs.Delivery.{DeliveryValue}
use Rattle.types.specs.declared.discard.Discard.{Discard}
use Rattle.types.specs.declared.discard.Discard.TheVariants.{BatchTwice}
use Rattle.lease_disk.specs.FileDisk.{FileDiskValue, device_of}
use Rattle.lease_disk.specs.Device.{has_failed}
use Rattle.circuit_server.specs.Calls.{IsCalledToSave, IsCalledToSaveAt}
use Rattle.dispatch.specs.Answers.{circuit_at, circuit_in}
use Rattle.dispatch.specs.Batch.{IsBatch, batch_saves}
use Rattle.dispatch.specs.Received.{Received, received, received_saves}
use Rattle.dispatch.specs.ServerValue.{ServerValue, books_in}
use Rattle.udp.specs.History.{Entry}
use Rattle.udp.specs.declared.history.Role.TheVariants as role
use Rattle.requests.specs.Addressee.{addressee}
use Rattle.counts.specs.Tally.{CircuitFate, circuit_fate, tallied, tallied_all}
use Rattle.counts.specs.declared.counts.Fate.{Fate}
use Rattle.counts.specs.declared.counts.Fate.TheVariants as fate
use Rattle.counts.specs.declared.tally.Tally.{Tally}
use Rattle.access.specs.Turn.{GoesOn, InOrder, Tries}

-- what serving changes: the server, its device, the tally and the history
pub record Serving : Type 0 where
  pub server : ServerValue
  pub disk : FileDiskValue
  pub tally : Tally
  pub history : List Entry

abbrev pub serving : ServerValue → FileDiskValue → Tally → List Entry → Serving
serving server disk tally history = record { server = server; disk = disk; tally = tally; history = history }

-- of which regions a save failed
abbrev pub failed_in : Serving → Serving → ℕ → Bool
failed_in old new = has_failed (device_of old.disk) (device_of new.disk)

-- ---- all at once

-- What the configuration says stays, and the number of regions.
pub record StaysServing (old new : Serving) : Type 0 where
  pub topology : new.server.topology ≡ old.server.topology
  pub regions : new.disk.regions ≡ old.disk.regions

-- The server receives all that were taken as one batch, and answers nothing yet. Its device is called for what the batch saves, and for
-- nothing else.
pub record IsReceived (taken : List DeliveryValue) (answers : List (Result (List ℕ) Discard)) (old new : Serving) : Type 0 where
  pub batch : IsBatch old.server.topology taken (failed_in old new) (books_in old.server) (books_in new.server) answers
  pub calls : IsCalledToSave (batch_saves old.server.topology taken (books_in old.server)) (device_of old.disk) (device_of new.disk)
  pub rest : new ≡ record old { server = new.server; disk = new.disk }
  pub stays : StaysServing old new

-- Where none was taken, nothing is called.
abbrev pub AreReceived : List DeliveryValue → List (Result (List ℕ) Discard) → Serving → Serving → Type 0
AreReceived [] answers old new = new ≡ old
AreReceived (d ∷ taken) answers old new = IsReceived (d ∷ taken) answers old new

-- ---- the answers

-- a datagram that is refused because an earlier one of the batch is of the same circuit
abbrev pub is_repeated : Result (List ℕ) Discard → Bool
is_repeated (Err BatchTwice) = true
is_repeated answer = false

-- At the server a datagram is counted for the circuit that it is of, if it was dropped.
abbrev pub circuit_if_dropped : Option ℕ → Fate → Option ℕ
circuit_if_dropped circuit (fate.Dropped why) = circuit
circuit_if_dropped circuit became = None

abbrev pub fate_at_server : Option ℕ → Fate → CircuitFate
fate_at_server circuit became = circuit_fate (circuit_if_dropped circuit became) became

-- The answer goes from the server's socket of its protocol to where the datagram came from. To one that is repeated nothing goes,
-- and it isn't counted yet.
abbrev pub IsReplied : Bool → Option ℕ → DeliveryValue → Result (List ℕ) Discard → Tries
IsReplied true circuit d answer entries outcomes = (entries ≡ []) × (outcomes ≡ [])
IsReplied false circuit d answer entries outcomes =
    (became : Fate) × (outcomes ≡ fate_at_server circuit became ∷ []) × GoesOn (role.Server d.proto) d.source fate.Answered answer entries became

-- the datagram of an index is replied to
pub record IsRepliedAt (taken : List DeliveryValue) (circuits : List (Option ℕ)) (answers : List (Result (List ℕ) Discard)) (j : ℕ) (entries : List Entry) (outcomes : List CircuitFate) : Type 0 where
  pub its_datagram : DeliveryValue
  pub its_answer : Result (List ℕ) Discard
  pub taken_at : slice_get taken j ≡ Some its_datagram
  pub answered_at : slice_get answers j ≡ Some its_answer
  pub replied : IsReplied (is_repeated its_answer) (circuit_at circuits j) its_datagram its_answer entries outcomes

-- one after the other, so many of them
abbrev pub AreReplied : List DeliveryValue → List (Option ℕ) → List (Result (List ℕ) Discard) → ℕ → Tries
AreReplied taken circuits answers = InOrder (IsRepliedAt taken circuits answers)

-- Some sockets were tried, by the tally and the history before and after.
pub record HasTried (Try : Tries) (before after : Tally) (old new : List Entry) : Type 0 where
  pub entries : List Entry
  pub outcomes : List CircuitFate
  pub tried : Try entries outcomes
  pub tally : after ≡ tallied_all outcomes before
  pub history : new ≡ old ++ entries

-- ---- those that are repeated

-- what the server makes of a datagram alone
abbrev pub made_of : DeliveryValue → Serving → Serving → Received
made_of d old new = received old.server.topology d (failed_in old new) (books_in old.server)

-- The answer goes from the server's socket to where the datagram came from, and the books are those after it, where the save failed
-- or not. The device is called for that save, and for nothing else.
pub record IsAnswered (d : DeliveryValue) (old new : Serving) : Type 0 where
  pub rest : List Entry
  pub became : Fate
  pub books : books_in new.server ≡ (made_of d old new).books
  pub calls : IsCalledToSaveAt (received_saves old.server.topology d (books_in old.server)) (device_of old.disk) (device_of new.disk)
  pub goes_on : GoesOn (role.Server d.proto) d.source fate.Answered (made_of d old new).answer rest became
  pub tally : new.tally ≡ tallied (fate_at_server (circuit_in (addressee old.server.topology d)) became) old.tally
  pub history : new.history ≡ old.history ++ rest
  pub stays : StaysServing old new

-- A datagram that is repeated is received again, alone.
abbrev pub IsReceivedAgain : Bool → DeliveryValue → Serving → Serving → Type 0
IsReceivedAgain true d old new = IsAnswered d old new
IsReceivedAgain false d old new = new ≡ old

pub record IsReceivedAgainAt (taken : List DeliveryValue) (answers : List (Result (List ℕ) Discard)) (j : ℕ) (old new : Serving) : Type 0 where
  pub its_datagram : DeliveryValue
  pub its_answer : Result (List ℕ) Discard
  pub taken_at : slice_get taken j ≡ Some its_datagram
  pub answered_at : slice_get answers j ≡ Some its_answer
  pub received : IsReceivedAgain (is_repeated its_answer) its_datagram old new

abbrev pub AreReceivedAgain : List DeliveryValue → List (Result (List ℕ) Discard) → ℕ → Serving → Serving → Type 0
AreReceivedAgain taken answers zero old new = new ≡ old
AreReceivedAgain taken answers (suc n) old new = (middle : Serving) × AreReceivedAgain taken answers n old middle × IsReceivedAgainAt taken answers n middle new
