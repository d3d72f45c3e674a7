use Rattle.std.proofs.Common.{◌≡◌, ◌<◌, ◌∙◌, ℕ, length, take, refl, sym, ap, subst, rules}
use Rattle.std.specs.Prelude.{Some, slice_get}
use Rattle.config.specs.Topology.{Topology, listen}
use Rattle.relay.specs.Relays.{relayed_up}
use Rattle.udp.specs.History.{Took, attempt_entry, with_entry}
use Rattle.udp.specs.declared.history.Role.TheVariants as role
use Rattle.access.specs.Access.{AccessValue, HasCarried, IsAccess}
use Rattle.access.specs.Turn.{CircuitSocket, IsSentUp}
use Rattle.access.specs.contracts.access.Access.{the_view}
use Rattle.counts.specs.Tally.{circuit_fate, tallied}
use Rattle.counts.specs.declared.counts.Fate.TheVariants as fate
use Rattle.access.proofs.AnswerLemmas.{went}
use Rattle.access.proofs.CarryLemmas.{carried_idle, carried_taken, idle_attempt}
use Rattle.access.proofs.UpLemmas.{circuits_own, own_sockets, relays_own, up_answer}
use Rattle.access.proofs.access.Access.take_frame.Goals.{in-V4, in-V6}
use Rattle.access.proofs.access.Access.take_frame.Goals as goal

pub take_if_ready-requires : goal.take_if_ready-requires
take_if_ready-requires c =
    let inside = c.self.inside in
    let within : c.args.index < length inside.relays.topology.circuits = subst (λ (s : AccessValue). c.args.index < length s.topology.circuits) (sym c.self.view_is) c.requires in
    sym (circuits_own inside.relays.topology inside.port inside.history.id inside.sockets c.self.invariant.6 c.self.invariant.0 c.args.index within c.index-sockets.result.now c.index-sockets.ensures
    c.args.proto c.socket-socket.result.now c.socket-socket.ensures.v4 c.socket-socket.ensures.v6).history

pub send_on-became-requires : goal.send_on-became-requires
send_on-became-requires c =
    let inside = c.self.inside in
    let relay = c.index.result.now.relay in
    let its_relay : relay < length inside.sockets.relays.items = search rules in
    c.take_if_ready.ensures.same ∙ sym (relays_own inside.relays.topology inside.port inside.history.id inside.sockets c.self.invariant.6 relay (subst (λ n. relay < n) c.self.invariant.3 its_relay) its_relay
    c.index-from.result.now c.index-from.ensures).1.history

pub invariant_of-self : goal.invariant_of-self
invariant_of-self c =
    let inside = c.self.inside in
    subst (λ (h : ℕ). IsAccess inside.relays.topology inside.sockets inside.server inside.disk.regions inside.port inside.batch.most h inside.listen4 inside.listen6) (sym c.take_if_ready.ensures.same) c.self.invariant

pub returns-in_default-clause-carried : goal.returns-in_default-clause-carried
returns-in_default-clause-carried c =
    let inside = c.self.inside in
    let topology = inside.relays.topology in
    let index = c.args.index in
    let proto = c.args.proto in
    let before : AccessValue = the_view inside in
    let within : index < length topology.circuits = subst (λ (s : AccessValue). index < length s.topology.circuits) (sym c.self.view_is) c.requires in
    let its = (circuits_own topology inside.port inside.history.id inside.sockets c.self.invariant.6 c.self.invariant.0 index within c.index-sockets.result.now c.index-sockets.ensures
    proto c.socket-socket.result.now c.socket-socket.ensures.v4 c.socket-socket.ensures.v6).role in
    subst (λ (old : AccessValue). HasCarried (CircuitSocket old.topology index proto) 0 old (record before { history = c.take_if_ready.new.history.entries })) c.self.view_is
    (carried_idle (role.Circuit index proto) (λ from frame. IsSentUp topology index proto frame) before c.take_if_ready.new.history.entries
    (idle_attempt (role.Circuit index proto) c.take_if_ready.new.buffer inside.history.entries c.take_if_ready.new.history.entries c.take_if_ready.result c.in_default.not-Took
    (subst (λ r. c.take_if_ready.new.history.entries ≡ with_entry (attempt_entry r c.take_if_ready.new.buffer c.take_if_ready.result) inside.history.entries) its c.take_if_ready.ensures.entries)))

pub invariant_of-self-2 : goal.invariant_of-self-2
invariant_of-self-2 c =
    let inside = c.self.inside in
    subst (λ (t : Topology). IsAccess t inside.sockets inside.server inside.disk.regions inside.port inside.batch.most c.send_on-became.new.history.id inside.listen4 inside.listen6) (sym c.up-made.ensures.topology)
    (subst (λ (h : ℕ). IsAccess inside.relays.topology inside.sockets inside.server inside.disk.regions inside.port inside.batch.most h inside.listen4 inside.listen6) (sym (c.send_on-became.ensures.same ∙ c.take_if_ready.ensures.same)) c.self.invariant)

pub returns-clause-carried : goal.returns-clause-carried
returns-clause-carried c =
    let inside = c.self.inside in
    let topology = inside.relays.topology in
    let index = c.args.index in
    let proto = c.args.proto in
    let before : AccessValue = the_view inside in
    let within : index < length topology.circuits = subst (λ (s : AccessValue). index < length s.topology.circuits) (sym c.self.view_is) c.requires in
    let its = (circuits_own topology inside.port inside.history.id inside.sockets c.self.invariant.6 c.self.invariant.0 index within c.index-sockets.result.now c.index-sockets.ensures
    proto c.socket-socket.result.now c.socket-socket.ensures.v4 c.socket-socket.ensures.v6).role in
    let relays = own_sockets topology inside.port inside.history.id inside.sockets c.self.invariant.6 c.self.invariant.0 index within c.index.result.now c.index.ensures in
    let relay = c.index.result.now.relay in
    let its_relay : relay < length inside.sockets.relays.items = search rules in
    let sender = (relays_own topology inside.port inside.history.id inside.sockets c.self.invariant.6 relay (subst (λ n. relay < n) c.self.invariant.3 its_relay) its_relay c.index-from.result.now c.index-from.ensures).1.role in
    let frame = take c.in-Took.len c.take_if_ready.new.buffer in
    let took = subst (λ r. c.take_if_ready.new.history.entries ≡ with_entry (Took r c.in-Took.field-1 frame) inside.history.entries) its c.in-Took.ensures.entries in
    let to : c.match-proto.to ≡ listen topology proto = elim c.match-proto.branch [
      | in-V4 w ↦ w.to-is ∙ c.self.invariant.8 ∙ ap (listen topology) (sym w.in-V4.is)
      | in-V6 w ↦ w.to-is ∙ c.self.invariant.9 ∙ ap (listen topology) (sym w.in-V6.is)
    ] in
    let answer = up_answer topology.circuits c.at-circuit.result relays.0 proto frame c.up-made.result c.up-made.new.out (subst (λ n. slice_get topology.circuits n ≡ Some relays.0) (sym c.at-circuit.ensures) relays.1)
    c.up-made.ensures.ok c.up-made.ensures.err c.up-made.ensures.empty in
    let w = went _ (role.Relay relay) _ (listen topology proto) fate.Relayed (relayed_up relays.0 proto frame) c.up-made.result _ c.up-made.new.out c.take_if_ready.new.history.entries c.send_on-became.new.history.entries c.send_on-became.result
    sender to c.as_slice-out.ensures.value answer c.send_on-became.ensures.sent in
    let count = c.count.ensures ∙ ap (λ k. tallied (circuit_fate (Some k) c.send_on-became.result) inside.tally) c.at-circuit.ensures in
    let carried = carried_taken (role.Circuit index proto) (λ from bytes. IsSentUp topology index proto bytes) before c.take_if_ready.new.history.entries c.send_on-became.new.history.entries w.rest c.count.new.self c.in-Took.field-1 frame
    (circuit_fate (Some index) c.send_on-became.result) took w.history count (record { part = relays.0; relay = relay; its_part = relays.1; its_relay = relays.2.relay; goes_on = w.goes_on; counted = refl }) in
    subst (λ (old : AccessValue). HasCarried (CircuitSocket old.topology index proto) 1 old
    (record before { topology = c.up-made.new.self.topology; tally = c.count.new.self; history = c.send_on-became.new.history.entries })) c.self.view_is
    (subst (λ (t : Topology). HasCarried (CircuitSocket topology index proto) 1 before (record before { topology = t; tally = c.count.new.self; history = c.send_on-became.new.history.entries }))
    (sym c.up-made.ensures.topology) carried)
