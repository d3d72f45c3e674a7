-- What server and relay make of strays.
use Rattle.std.proofs.Common.{◌≡◌, ℕ, Bool, true, false, List, refl, sym, ◌∙◌}
use Rattle.std.specs.Prelude.{◌||◌, Option, None, Result, Ok, Err, slice_index, slice_index_or, []}
use Rattle.types.specs.Addr.{same_source}
use Rattle.types.specs.Delivery.{DeliveryValue}
use Rattle.types.specs.declared.addr.Source.{Source}
use Rattle.types.specs.declared.discard.Discard.{Discard}
use Rattle.types.specs.declared.discard.Discard.TheVariants.{UnknownSource, NotServer}
use Rattle.config.specs.CircuitPart.{CircuitPart}
use Rattle.requests.specs.Addressee.{addressee}
use Rattle.circuit_server.specs.Leases.{Leases}
use Rattle.dispatch.specs.Received.{Received, drop_all, received, received_leases, received_saves}
use Rattle.circuit_server.specs.Answered.{IsAnswer}
use Rattle.circuit_server.specs.Server.{Book}
use Rattle.lease_disk.specs.Device.{Device}
use Rattle.lossy_net.specs.Net.{NetValue, datagrams}
use Rattle.lossy_net.specs.declared.dir.Dir.TheVariants.{Up, Down}
use Rattle.world.specs.Alone.{setup_of}
use Rattle.world.specs.Headline.{CircuitState}
use Rattle.config.specs.Membership.{has}
use Rattle.config.specs.Topology.{Topology, is_relay, is_server, serves}
use Rattle.relay.specs.Relays.{CircuitFrame, RelaysValue, relayed_down_in}

either_false : (a b : Bool) → (a || b) ≡ false → (a ≡ false) × (b ≡ false)
either_false true b h = absurd cc
either_false false b h = (refl, h)

-- the server drops what no relay sent, and every book stays
pub stray_received : (topology : Topology) (e : DeliveryValue) (fails : ℕ → Bool) (books : List (Option Book))
    → is_relay topology e.source ≡ false → received topology e fails books ≡ drop_all UnknownSource books
unfolding addressee
stray_received topology e fails books h = rw h refl

-- and so do all leases
pub stray_leases : (topology : Topology) (e : DeliveryValue) (faults : ℕ → ℕ) (all : List Leases)
    → is_relay topology e.source ≡ false → received_leases topology e faults all ≡ all
unfolding addressee
stray_leases topology e faults all h = rw h refl

-- and nothing is written
pub stray_saves : (topology : Topology) (e : DeliveryValue) (books : List (Option Book))
    → is_relay topology e.source ≡ false → received_saves topology e books ≡ None
unfolding addressee
stray_saves topology e books h = rw h refl

-- a circuit's state, by network, relays and device
abbrev pub states_over : NetValue → RelaysValue → Device → ℕ → CircuitPart → Leases → CircuitState
states_over net relays device c part leases = record {
  setup = setup_of net.quota part (has relays.topology.plans 0 c);
  plans = slice_index_or relays.topology.plans.members c [];
  on = serves relays.topology c;
  up = datagrams net c Up;
  down = datagrams net c Down;
  discarded = slice_index relays.discarded c;
  leases = leases;
  region = device.region part.region;
  failing_call = device.failing_call part.region;
}

-- a relay drops what the server did not send
pub stray_relayed : (t : Topology) (relay : ℕ) (source : Source) (datagram : List ℕ) → is_server t source ≡ false → relayed_down_in t relay source datagram ≡ Err NotServer
unfolding relayed_down_in
stray_relayed t relay source datagram h =
    let apart = either_false (same_source source t.listen4) (same_source source t.listen6) h in
    rw (apart.0, apart.1) refl

-- so the answer is a refusal, and the reason is this one
pub refusal_is : (answer : Received) (why : Discard) (books : List (Option Book)) (result : Result (Unit {0}) Discard) (out : List ℕ) → answer ≡ drop_all why books → IsAnswer answer.answer result out → result ≡ Err why
refusal_is answer why books result out h is = (rw h at is).0

pub no_ok : (result : Result (Unit {0}) Discard) (u : Unit {0}) (why : Discard) → result ≡ Ok u → result ≡ Err why → ⊥
no_ok result u why ok err = let h : Ok u ≡ Err why = sym ok ∙ err in absurd cc

pub same_reason : (result : Result (Unit {0}) Discard) (why other : Discard) → result ≡ Err why → result ≡ Err other → why ≡ other
same_reason result why other one two = let h : Err why ≡ Err other = sym one ∙ two in cc

pub no_frame : (t : Topology) (relay : ℕ) (source : Source) (datagram : List ℕ) (frame : CircuitFrame) → is_server t source ≡ false → relayed_down_in t relay source datagram ≡ Ok frame → ⊥
no_frame t relay source datagram frame apart ok = let h : Ok frame ≡ Err NotServer = sym ok ∙ stray_relayed t relay source datagram apart in absurd cc

pub relay_reason : (t : Topology) (relay : ℕ) (source : Source) (datagram : List ℕ) (why : Discard) → is_server t source ≡ false → relayed_down_in t relay source datagram ≡ Err why → why ≡ NotServer
relay_reason t relay source datagram why apart err = let h : Err why ≡ Err NotServer = sym err ∙ stray_relayed t relay source datagram apart in cc
