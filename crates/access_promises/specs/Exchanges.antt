-- What the server answered in a run.
use Rattle.std.specs.Prelude.{◌≡◌, ℕ, Bool, List, map, Option, Some, None, option_map, slice_get, Result, Err, All}
use Rattle.std.specs.List.{filter, filter_map, list_any}
use Rattle.std.specs.List.Sorted.{IsPermutation}
use Rattle.std.specs.Option.{option_flatten}
use Rattle.std.specs.Result.{result_ok}
use Rattle.types.specs.Delivery.{DeliveryValue}
use Rattle.types.specs.declared.discard.Discard.{Discard}
use Rattle.lease_disk.specs.Device.{has_failed}
use Rattle.lease_disk.specs.FileDisk.{device_of}
use Rattle.config.specs.CircuitPart.{CircuitPart}
use Rattle.config.specs.Topology.{Topology}
use Rattle.requests.specs.Addressee.{addressee}
use Rattle.circuit_server.specs.Server.{Book}
use Rattle.dispatch.specs.ServerValue.{ServerValue, books_in}
use Rattle.access.specs.Access.{AccessValue}
use Rattle.access_promises.specs.Turns.{added}
use Rattle.access_promises.specs.Own.{Reply, Step, Receive, Tick, is_own, replies_in, steps_in, taken_at_server}
use Rattle.access_promises.specs.Alone.{answers_alone, book_alone}

-- a datagram that the server took, whether its save failed, and the answer to it
pub record Exchange : Type 0 where
  pub datagram : DeliveryValue
  pub failed : Bool
  pub answer : Result (List ℕ) Discard

-- An answer goes from the server's socket of the datagram's protocol to where the datagram came from.
abbrev pub reply_of : Exchange → Option Reply
reply_of x = option_map (λ datagram. record { proto = x.datagram.proto; to = x.datagram.source; datagram = datagram }) (result_ok x.answer)

-- ---- one circuit's

abbrev pub own_exchanges : Topology → ℕ → List Exchange → List Exchange
own_exchanges topology c = filter (λ x. is_own topology c x.datagram)

-- which saves failed, and the answers, in order
abbrev pub failed_saves : Topology → ℕ → List Exchange → List Bool
failed_saves topology c exchanges = map (λ x. x.failed) (own_exchanges topology c exchanges)

abbrev pub answers_in : Topology → ℕ → List Exchange → List (Result (List ℕ) Discard)
answers_in topology c exchanges = map (λ x. x.answer) (own_exchanges topology c exchanges)

-- circuit c's book, if it is open
abbrev pub book_in : ServerValue → ℕ → Option Book
book_in server c = option_flatten (slice_get (books_in server) c)

abbrev pub received_by : Step → Option DeliveryValue
received_by (Receive d) = Some d
received_by (Tick now) = None

-- Each of its datagrams is answered once, in order, and its server alone gives these answers, and has that book afterwards.
pub record AreAlone (topology : Topology) (c : ℕ) (part : CircuitPart) (steps : List Step) (exchanges : List Exchange) (old new : Option Book) : Type 0 where
  pub datagrams : map (λ x. x.datagram) (own_exchanges topology c exchanges) ≡ filter_map received_by steps
  pub answers : answers_in topology c exchanges ≡ answers_alone part steps (failed_saves topology c exchanges) old
  pub book : new ≡ book_alone part steps (failed_saves topology c exchanges) old

-- ---- all of them

-- A datagram of no circuit is dropped, for that reason.
abbrev pub DropsStray : Topology → Exchange → Type 0
DropsStray topology x = (why : Discard) → addressee topology x.datagram ≡ Err why → x.answer ≡ Err why

-- Each datagram that the server takes in a run is answered once, what it sends are these answers, in order, and each circuit's are
-- those of its server alone.
pub record AreExchanges (old new : AccessValue) (exchanges : List Exchange) : Type 0 where
  pub once : IsPermutation (map (λ x. x.datagram) exchanges) (taken_at_server (added old new))
  pub sent : replies_in (added old new) ≡ filter_map reply_of exchanges
  pub strays : All (DropsStray old.topology) exchanges
  pub each : (c : ℕ) (part : CircuitPart) → slice_get old.topology.circuits c ≡ Some part
      → AreAlone old.topology c part (steps_in old.topology c (added old new)) exchanges (book_in old.server c) (book_in new.server c)
  -- The device counts a failed call of a circuit's region in the run exactly if one of the circuit's saves failed.
  pub failures : (c : ℕ) (part : CircuitPart) → slice_get old.topology.circuits c ≡ Some part
      → has_failed (device_of old.disk) (device_of new.disk) part.region ≡ list_any (λ f. f) (failed_saves old.topology c exchanges)
