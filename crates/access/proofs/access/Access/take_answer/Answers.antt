use Rattle.std.proofs.Common.{ℕ, [], ◌≡◌, ◌<◌, ◌∙◌, ◌++◌, length, take, refl, sym, ap, subst, append-nil}
use Rattle.std.specs.Prelude.{Some, None, Ok, Err, slice_index_or}
use Rattle.relay.specs.Relays.{relayed_down_in}
use Rattle.wire.specs.Framed.{FramedValue}
use Rattle.udp.specs.History.{Took, attempt_entry, with_entry}
use Rattle.udp.specs.declared.history.Role.TheVariants as role
use Rattle.access.specs.Access.{AccessValue, HasCarried, IsAccess}
use Rattle.counts.specs.Tally.{circuit_fate}
use Rattle.sockets.specs.Sockets.{client_port, framed, proto_of}
use Rattle.access.specs.Turn.{IsSentDown, RelaySocket}
use Rattle.access.specs.contracts.access.Access.{the_view}
use Rattle.counts.specs.declared.counts.Fate.TheVariants as fate
use Rattle.access.proofs.AnswerLemmas.{went}
use Rattle.access.proofs.CarryLemmas.{carried_idle, carried_taken, idle_attempt}
use Rattle.access.proofs.UpLemmas.{circuits_own, relays_own}
use Rattle.access.proofs.access.Access.take_answer.Goals as goal

pub take_if_ready-requires : goal.take_if_ready-requires
take_if_ready-requires c =
    let inside = c.self.inside in
    let topology = inside.relays.topology in
    let index = c.args.index in
    let within : index < length topology.relays = subst (λ (s : AccessValue). index < length s.topology.relays) (sym c.self.view_is) c.requires in
    let there : index < length inside.sockets.relays.items = subst (λ n. index < n) (sym c.self.invariant.3) within in
    sym (relays_own topology inside.port inside.history.id inside.sockets c.self.invariant.6 index within there c.index-socket.result.now c.index-socket.ensures).1.history

pub send_on-became-requires : goal.send_on-became-requires
send_on-became-requires c =
    let inside = c.self.inside in
    c.take_if_ready.ensures.same ∙ sym (circuits_own inside.relays.topology inside.port inside.history.id inside.sockets c.self.invariant.6 c.self.invariant.0 c.in-Ok.sent.0 c.in-Ok.ensures.exists c.index-in-Ok.result.now
    (subst (λ n. c.index-in-Ok.result.now ≡ slice_index_or inside.sockets.circuits.items n c.index-in-Ok.result.now) c.index.ensures.value c.index-in-Ok.ensures)
    c.proto_of-proto.result c.socket-from.result.now c.socket-from.ensures.v4 c.socket-from.ensures.v6).history

pub invariant_of-self : goal.invariant_of-self
invariant_of-self c =
    let inside = c.self.inside in
    subst (λ (h : ℕ). IsAccess inside.relays.topology inside.sockets inside.server inside.disk.regions inside.port inside.batch.most h inside.listen4 inside.listen6) (sym c.take_if_ready.ensures.same) c.self.invariant

pub returns-in_default-clause-carried : goal.returns-in_default-clause-carried
returns-in_default-clause-carried c =
    let inside = c.self.inside in
    let topology = inside.relays.topology in
    let index = c.args.index in
    let before : AccessValue = the_view inside in
    let within : index < length topology.relays = subst (λ (s : AccessValue). index < length s.topology.relays) (sym c.self.view_is) c.requires in
    let there : index < length inside.sockets.relays.items = subst (λ n. index < n) (sym c.self.invariant.3) within in
    let its = (relays_own topology inside.port inside.history.id inside.sockets c.self.invariant.6 index within there c.index-socket.result.now c.index-socket.ensures).1.role in
    subst (λ (old : AccessValue). HasCarried (RelaySocket old.topology old.port index) 0 old (record before { history = c.take_if_ready.new.history.entries })) c.self.view_is
    (carried_idle (role.Relay index) (λ from datagram. IsSentDown inside.port (relayed_down_in topology index from datagram)) before c.take_if_ready.new.history.entries
    (idle_attempt (role.Relay index) c.take_if_ready.new.buffer inside.history.entries c.take_if_ready.new.history.entries c.take_if_ready.result c.in_default.not-Took
    (subst (λ r. c.take_if_ready.new.history.entries ≡ with_entry (attempt_entry r c.take_if_ready.new.buffer c.take_if_ready.result) inside.history.entries) its c.take_if_ready.ensures.entries)))

pub invariant_of-self-in-Ok : goal.invariant_of-self-in-Ok
invariant_of-self-in-Ok c =
    let inside = c.self.inside in
    subst (λ (h : ℕ). IsAccess inside.relays.topology inside.sockets inside.server inside.disk.regions inside.port inside.batch.most h inside.listen4 inside.listen6) (sym (c.send_on-became.ensures.same ∙ c.take_if_ready.ensures.same)) c.self.invariant

pub invariant_of-self-in-Err : goal.invariant_of-self-in-Err
invariant_of-self-in-Err c =
    let inside = c.self.inside in
    subst (λ (h : ℕ). IsAccess inside.relays.topology inside.sockets inside.server inside.disk.regions inside.port inside.batch.most h inside.listen4 inside.listen6) (sym c.take_if_ready.ensures.same) c.self.invariant

pub returns-in-Ok-clause-carried : goal.returns-in-Ok-clause-carried
returns-in-Ok-clause-carried c =
    let inside = c.self.inside in
    let topology = inside.relays.topology in
    let port = inside.port in
    let index = c.args.index in
    let before : AccessValue = the_view inside in
    let within : index < length topology.relays = subst (λ (s : AccessValue). index < length s.topology.relays) (sym c.self.view_is) c.requires in
    let there : index < length inside.sockets.relays.items = subst (λ n. index < n) (sym c.self.invariant.3) within in
    let its = (relays_own topology port inside.history.id inside.sockets c.self.invariant.6 index within there c.index-socket.result.now c.index-socket.ensures).1.role in
    let datagram = take c.in-Took.len c.take_if_ready.new.buffer in
    let taken = c.take_if_ready.new.history.entries in
    let took = subst (λ r. taken ≡ with_entry (Took r c.in-Took.from datagram) inside.history.entries) its c.in-Took.ensures.entries in
    let sent = c.in-Ok.sent in
    let proto = proto_of sent.1 in
    let sender = (circuits_own topology port inside.history.id inside.sockets c.self.invariant.6 c.self.invariant.0 sent.0 c.in-Ok.ensures.exists c.index-in-Ok.result.now
    (subst (λ n. c.index-in-Ok.result.now ≡ slice_index_or inside.sockets.circuits.items n c.index-in-Ok.result.now) c.index.ensures.value c.index-in-Ok.ensures)
    c.proto_of-proto.result c.socket-from.result.now c.socket-from.ensures.v4 c.socket-from.ensures.v6).role
    ∙ ap (role.Circuit sent.0) c.proto_of-proto.ensures in
    let to = c.client-to.ensures ∙ ap (client_port port sent.0) c.proto_of-proto.ensures in
    let bytes = c.as_slice-bytes.ensures.value ∙ ap (λ (v : FramedValue). v.front ++ v.datagram) c.put_front.ensures ∙ ap (framed sent.1) c.framed-frame.ensures.value in
    let found = subst (λ r. relayed_down_in topology r c.in-Took.from datagram ≡ Ok (record { circuit = sent.0; frame = record { dest = sent.1; bytes = c.down.new.out } })) c.at-relay.ensures c.in-Ok.ensures.ok in
    let g = went c.socket-from.result.now.role (role.Circuit sent.0 proto) c.client-to.result (client_port port sent.0 proto) fate.Delivered (Ok (framed sent.1 c.down.new.out)) (Ok tt) c.as_slice-bytes.result.now
    (framed sent.1 c.down.new.out) taken c.send_on-became.new.history.entries c.send_on-became.result sender to bytes (refl, refl) c.send_on-became.ensures.sent in
    let outcome = circuit_fate (Some sent.0) c.send_on-became.result in
    subst (λ (old : AccessValue). HasCarried (RelaySocket old.topology old.port index) 1 old (record before { tally = c.count.new.self; history = c.send_on-became.new.history.entries })) c.self.view_is
    (carried_taken (role.Relay index) (λ from bytes. IsSentDown port (relayed_down_in topology index from bytes)) before taken c.send_on-became.new.history.entries g.rest c.count.new.self
    c.in-Took.from datagram outcome took g.history c.count.ensures (subst (λ r. IsSentDown port r g.rest outcome) (sym found) (g.goes_on, refl)))

pub returns-in-Err-clause-carried : goal.returns-in-Err-clause-carried
returns-in-Err-clause-carried c =
    let inside = c.self.inside in
    let topology = inside.relays.topology in
    let port = inside.port in
    let index = c.args.index in
    let before : AccessValue = the_view inside in
    let within : index < length topology.relays = subst (λ (s : AccessValue). index < length s.topology.relays) (sym c.self.view_is) c.requires in
    let there : index < length inside.sockets.relays.items = subst (λ n. index < n) (sym c.self.invariant.3) within in
    let its = (relays_own topology port inside.history.id inside.sockets c.self.invariant.6 index within there c.index-socket.result.now c.index-socket.ensures).1.role in
    let datagram = take c.in-Took.len c.take_if_ready.new.buffer in
    let taken = c.take_if_ready.new.history.entries in
    let took = subst (λ r. taken ≡ with_entry (Took r c.in-Took.from datagram) inside.history.entries) its c.in-Took.ensures.entries in
    let found = subst (λ r. relayed_down_in topology r c.in-Took.from datagram ≡ Err c.in-Err.why) c.at-relay.ensures c.in-Err.ensures.err in
    let outcome = circuit_fate None (fate.Dropped c.in-Err.why) in
    subst (λ (old : AccessValue). HasCarried (RelaySocket old.topology old.port index) 1 old (record before { tally = c.count-in-Err.new.self; history = taken })) c.self.view_is
    (carried_taken (role.Relay index) (λ from bytes. IsSentDown port (relayed_down_in topology index from bytes)) before taken taken [] c.count-in-Err.new.self c.in-Took.from datagram
    outcome took (sym (append-nil taken)) c.count-in-Err.ensures (subst (λ r. IsSentDown port r [] outcome) (sym found) (refl, refl)))
