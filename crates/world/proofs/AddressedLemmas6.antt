-- What the relay sends up of a DHCPv6 frame is its circuit's at the server.
use Rattle.std.proofs.Common.{◌≡◌, ◌≤◌, ℕ, true, List, [], ◌∷◌, length, take, drop, Some, Ok, refl, sym, ap, ◌∙◌, arith}
use Rattle.std.specs.Prelude.{slice_get}
use Rattle.std.specs.List.{position}
use Rattle.std.proofs.lemmas.List.{length-append, length-drop, length-take-le}
use Rattle.types.specs.Delivery.{delivery}
use Rattle.types.specs.declared.dest.Proto.TheVariants.{V6}
use Rattle.v6_options.specs.Spelling.{option, spelling}
use Rattle.v6_message.specs.Relay.{relay_bytes, relay_header}
use Rattle.v6_message.specs.RelayReading.{relay_of}
use Rattle.config.specs.CircuitPart.{CircuitPart, IsPart}
use Rattle.config.specs.Topology.{Topology, has_id, is_relay, serves}
use Rattle.config.proofs.TopologyLemmas.{bytes_eq_self, same_source_self}
use Rattle.requests.specs.Addressee.{addressee}
use Rattle.requests.specs.Addressee6.{relay_check}
use Rattle.requests.proofs.AddresseeLemmas.{within}
use Rattle.relay.specs.Up6.{relay_forward, relayed_up6}
use Rattle.relay.proofs.AllLemmas.{first_with_id}
use Rattle.relay.proofs.Relay6Lemmas.{up6_sent}

-- 34 bytes before the options, 36 at most for the circuit's id, 1012 at most for the message
is_short : (part : CircuitPart) (frame : List ℕ) → IsPart part → length frame ≤ 1024 → 20 ≤ length frame
    → length (relay_bytes (relay_forward part (take 16 frame) (drop 16 frame))) ≤ 1280
is_short part frame p short long =
    let peer = length-take-le 16 frame (omega (arith, long)) in
    let message = length-drop 16 frame in
    let header = length-append (12 ∷ 0 ∷ part.link6) (take 16 frame) in
    let id : List (ℕ × List ℕ) = (18, part.id) ∷ (9, drop 16 frame) ∷ [] in
    let inside : List (ℕ × List ℕ) = (9, drop 16 frame) ∷ [] in
    let all = length-append (relay_header 12 0 part.link6 (take 16 frame)) (spelling id) in
    let options = length-append (option 18 part.id) (spelling inside) in
    let last = length-append (option 9 (drop 16 frame)) [] in
    omega (arith, header, all, options, last, peer, message, p.link6_size, p.id.most, short)

-- Where no other circuit has its id, a circuit's messages pass the server's tests.
pub forward_is_addressed : (topology : Topology) (c : ℕ) (part : CircuitPart) → slice_get topology.circuits c ≡ Some part → serves topology c ≡ true
    → ((d : ℕ) (other : CircuitPart) → slice_get topology.circuits d ≡ Some other → other.id ≡ part.id → d ≡ c)
    → (now : ℕ) (frame datagram : List ℕ) → is_relay topology part.relay ≡ true → IsPart part
    → relayed_up6 part frame ≡ Ok datagram → relay_of datagram ≡ Ok (relay_forward part (take 16 frame) (drop 16 frame))
    → addressee topology (delivery V6 part.relay now datagram) ≡ Ok c
forward_is_addressed topology c part there served alone now frame datagram known p sent read =
    let is = up6_sent part frame datagram sent in
    ap (λ bytes. addressee topology (delivery V6 part.relay now bytes)) is.2
    ∙ within topology (delivery V6 part.relay now (relay_bytes (relay_forward part (take 16 frame) (drop 16 frame)))) known (is_short part frame p is.1 is.0)
    ∙ ap (λ bytes. relay_check topology part.relay (relay_of bytes)) (sym is.2)
    ∙ ap (relay_check topology part.relay) read
    ∙ checked
  where
    found : position (has_id (Some part.id)) topology.circuits ≡ Some c
    found = first_with_id topology.circuits c part (Some part.id) there alone (bytes_eq_self part.id)

    checked : relay_check topology part.relay (Ok (relay_forward part (take 16 frame) (drop 16 frame))) ≡ Ok c
    checked = rw (found, there, same_source_self part.relay, served, bytes_eq_self part.link6) refl
