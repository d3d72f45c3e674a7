-- The first two tests of a datagram at the server, and what follows them.
use Rattle.std.proofs.Common.{◌≡◌, ℕ, true, false, List, length, ◌<◌, ◌≤◌, Option, None, Err, refl, ap}
use Rattle.std.proofs.lemmas.Bool.{lt-ltb, le-ltb}
use Rattle.types.specs.Delivery.{DeliveryValue}
use Rattle.types.specs.declared.addr.Source.{Source}
use Rattle.types.specs.declared.discard.Discard.{Discard}
use Rattle.types.specs.declared.discard.Discard.TheVariants.{UnknownSource, UnknownCircuit, Malformed}
use Rattle.config.specs.CircuitPart.{CircuitPart}
use Rattle.config.specs.Topology.{Topology, is_relay, relay_circuit}
use Rattle.requests.specs.Addressee.{addressee, datagram_check}
use Rattle.requests.specs.NamedCircuit.{circuit_check, named_check}

pub unknown_source : (topology : Topology) (d : DeliveryValue) → is_relay topology d.source ≡ false → addressee topology d ≡ Err UnknownSource
unfolding addressee
unknown_source topology d other = rw other refl

pub too_long : (topology : Topology) (d : DeliveryValue) → is_relay topology d.source ≡ true → 1280 < length d.bytes → addressee topology d ≡ Err Malformed
unfolding addressee
too_long topology d known long = rw (known, lt-ltb 1280 (length d.bytes) long) refl

pub within : (topology : Topology) (d : DeliveryValue) → is_relay topology d.source ≡ true → length d.bytes ≤ 1280
    → addressee topology d ≡ datagram_check topology d.proto d.source d.bytes
unfolding addressee
within topology d known short = rw (known, le-ltb 1280 (length d.bytes) short) refl

-- ---- the circuit that a datagram names

pub none_named : (topology : Topology) (source : Source) (id : Option (List ℕ)) (link : CircuitPart → Option Discard)
    → relay_circuit topology source id ≡ None → named_check topology source id link ≡ Err UnknownCircuit
none_named topology source id link none = ap (circuit_check link) none
