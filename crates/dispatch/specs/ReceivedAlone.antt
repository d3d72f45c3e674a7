-- What the server makes of one datagram whose circuit it has found, all clauses together. Only proofs need this.
use Rattle.std.specs.Prelude.{◌≡◌, ◌<◌, ℕ, Bool, true, List, Result, Ok, Err, IfErr, length}
use Rattle.types.specs.Delivery.{DeliveryValue}
use Rattle.types.specs.declared.discard.Discard.{Discard}
use Rattle.lease_disk.specs.Device.{Device, WritesAt, has_failed}
use Rattle.config.specs.Topology.{Topology}
use Rattle.requests.specs.Addressee.{addressee}
use Rattle.requests.specs.RelayedMessage.{IsRelayedMessage}
use Rattle.requests.specs.declared.relayed_message.RelayedMessage.{RelayedMessage}
use Rattle.circuit_server.specs.Answered.{IsAnswer, fails_at}
use Rattle.circuit_server.specs.Calls.{IsCalledToSaveAt}
use Rattle.dispatch.specs.Batch.{is_circuit}
use Rattle.dispatch.specs.Deadlines.{AllUnchangedOrUntilHeld, KeepsDeadlines}
use Rattle.dispatch.specs.Received.{received, received_leases, received_saves}
use Rattle.dispatch.specs.ServerValue.{AreReady, ServerValue, books_in, leases_in}

-- the circuit of a datagram and what was read of it, or the first reason why it is of none
abbrev pub IsFound : Topology → DeliveryValue → Result (ℕ × RelayedMessage) Discard → Type 0
IsFound topology d (Ok (c, relayed)) = (addressee topology d ≡ Ok c) × (c < length topology.circuits) × IsRelayedMessage d.proto d.bytes relayed
IsFound topology d (Err why) = addressee topology d ≡ Err why

pub record IsReceivedAlone (tells : Bool) (d : DeliveryValue) (result : Result (Unit {0}) Discard) (out : List ℕ) (server later : ServerValue) (device later_device : Device) : Type 0 where
  pub answer : IsAnswer (received server.topology d (has_failed device later_device) (books_in server)).answer result out
  pub books : books_in later ≡ (received server.topology d (has_failed device later_device) (books_in server)).books
  pub unchanged : IfErr (addressee server.topology d) (λ why. (result ≡ Err why) × (later ≡ server) × (later_device ≡ device))
  pub deadlines : KeepsDeadlines (λ c. is_circuit c (addressee server.topology d)) server.deadlines later.deadlines
  pub held : AllUnchangedOrUntilHeld server.deadlines later.deadlines later.states
  pub fails : tells ≡ true → (r : ℕ) → has_failed device later_device r ≡ fails_at device.failing_call (received_saves server.topology d (books_in server)) r
  pub leases : tells ≡ true → leases_in later_device.region later ≡ received_leases server.topology d device.failing_call (leases_in device.region server)
  pub ready : tells ≡ true → AreReady later_device.region later
  pub frame : WritesAt tells (received_saves server.topology d (books_in server)) device later_device
  pub calls : IsCalledToSaveAt (received_saves server.topology d (books_in server)) device later_device
