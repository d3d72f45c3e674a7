-- What relays and server make of a datagram, as one answer; and which socket is whose.
use Rattle.std.proofs.Common.{◌≡◌, ◌∙◌, ◌<◌, ℕ, zero, suc, List, [], ◌∷◌, length, refl, sym, ap, subst, arith}
use Rattle.std.specs.Prelude.{Result, Ok, Err, OnOk, OnErr, IfErr, Some, slice_get, slice_index_or}
use Rattle.std.proofs.lemmas.Option.{slice_get-get_or}
use Rattle.types.specs.declared.addr.Source.{Source}
use Rattle.types.specs.declared.dest.Proto.{Proto}
use Rattle.types.specs.declared.dest.Proto.TheVariants.{V4, V6}
use Rattle.types.specs.declared.discard.Discard.{Discard}
use Rattle.config.specs.CircuitPart.{CircuitPart}
use Rattle.config.specs.Topology.{Topology}
use Rattle.circuit_server.specs.Answered.{IsAnswer}
use Rattle.relay.specs.Relays.{relayed_up}
use Rattle.udp.specs.Socket.{SocketValue}
use Rattle.udp.specs.declared.history.Role.TheVariants as role
use Rattle.sockets.specs.Sockets.{AreBound, AreCircuitSockets, IsBound, listen_port}
use Rattle.sockets.specs.declared.sockets.Sockets.{Sockets}
use Rattle.sockets.specs.declared.sockets.CircuitSockets.{CircuitSockets}

-- what is within a list is there
pub is_there : {A : Type 0} (xs : List A) (k : ℕ) → k < length xs → (x : A) × (slice_get xs k ≡ Some x)
is_there [] k h = absurd (omega (arith, h))
is_there (x ∷ xs) zero h = (x, refl)
is_there (x ∷ xs) (suc k) h = is_there xs k (omega (arith, h))

pub up_answer : (parts : List CircuitPart) (c : ℕ) (part : CircuitPart) (proto : Proto) (frame : List ℕ) (result : Result (Unit {0}) Discard) (out : List ℕ) → slice_get parts c ≡ Some part
    → OnOk result ((p : CircuitPart) → slice_get parts c ≡ Some p → relayed_up p proto frame ≡ Ok out)
    → IfErr result (λ why. (p : CircuitPart) → slice_get parts c ≡ Some p → relayed_up p proto frame ≡ Err why)
    → OnErr result (out ≡ []) → IsAnswer (relayed_up part proto frame) result out
up_answer parts c part proto frame (Ok unit) out there ok err empty = subst (λ r. IsAnswer r (Ok unit) out) (sym (ok part there)) (refl, refl)
up_answer parts c part proto frame (Err why) out there ok err empty = subst (λ r. IsAnswer r (Err why) out) (sym (err part there)) (refl, empty)

-- a circuit's socket of a protocol is its own
its_own : (relays : List Source) (port history c : ℕ) (part : CircuitPart) (sockets : CircuitSockets) (proto : Proto) (socket : SocketValue) → AreCircuitSockets relays port history c part sockets
    → (proto ≡ V4 → socket ≡ sockets.socket4) → (proto ≡ V6 → socket ≡ sockets.socket6) → IsBound socket (role.Circuit c proto) (listen_port port c proto) history
its_own relays port history c part sockets V4 socket own four six = subst (λ s. IsBound s (role.Circuit c V4) (listen_port port c V4) history) (sym (four refl)) own.socket4
its_own relays port history c part sockets V6 socket own four six = subst (λ s. IsBound s (role.Circuit c V6) (listen_port port c V6) history) (sym (six refl)) own.socket6

-- the sockets of the circuit of an index are its own
pub own_sockets : (topology : Topology) (port history : ℕ) (sockets : Sockets) → AreBound topology port history sockets → length sockets.circuits.items ≡ length topology.circuits
    → (c : ℕ) → c < length topology.circuits → (found : CircuitSockets) → found ≡ slice_index_or sockets.circuits.items c found
    → (part : CircuitPart) × (slice_get topology.circuits c ≡ Some part) × AreCircuitSockets topology.relays port history c part found
own_sockets topology port history sockets bound size c within found is =
    let one = is_there topology.circuits c within in
    let at : slice_get sockets.circuits.items c ≡ Some found = slice_get-get_or sockets.circuits.items c found (omega (arith, size, within)) ∙ ap Some (sym is) in
    (one.0, one.1, bound.circuits c one.0 found one.1 at)

-- the socket of a circuit and a protocol is its own
pub circuits_own : (topology : Topology) (port history : ℕ) (sockets : Sockets) → AreBound topology port history sockets → length sockets.circuits.items ≡ length topology.circuits
    → (c : ℕ) → c < length topology.circuits → (found : CircuitSockets) → found ≡ slice_index_or sockets.circuits.items c found
    → (proto : Proto) (socket : SocketValue) → (proto ≡ V4 → socket ≡ found.socket4) → (proto ≡ V6 → socket ≡ found.socket6) → IsBound socket (role.Circuit c proto) (listen_port port c proto) history
circuits_own topology port history sockets bound size c within found is proto socket four six =
    let own = own_sockets topology port history sockets bound size c within found is in
    its_own topology.relays port history c own.0 found proto socket own.2 four six

-- the socket of the relay of an index is its own
pub relays_own : (topology : Topology) (port history : ℕ) (sockets : Sockets) → AreBound topology port history sockets → (r : ℕ) → r < length topology.relays → r < length sockets.relays.items
    → (found : SocketValue) → found ≡ slice_index_or sockets.relays.items r found → (at : Source) × IsBound found (role.Relay r) at history
relays_own topology port history sockets bound r within there found is =
    let one = is_there topology.relays r within in
    let at : slice_get sockets.relays.items r ≡ Some found = slice_get-get_or sockets.relays.items r found there ∙ ap Some (sym is) in
    (one.0, bound.relays r one.0 found one.1 at)
