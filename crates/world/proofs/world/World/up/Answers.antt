use Rattle.std.proofs.Common.{◌≡◌, ℕ, ◌<◌, true, length, refl, sym, ap, subst, ◌∙◌, arith}
use Rattle.std.specs.Prelude.{Result, slice_get}
use Rattle.std.proofs.lemmas.Option.{same_Some}
use Rattle.types.specs.declared.discard.Discard.{Discard}
use Rattle.circuit_server.specs.Answered.{IsAnswer}
use Rattle.config.specs.CircuitPart.{CircuitPart}
use Rattle.config.specs.Topology.{Topology}
use Rattle.circuit_server.specs.Leases.{after_datagram}
use Rattle.dispatch.specs.ServerValue.{AreReady, leases_in}
use Rattle.lease_disk.specs.Model as disk
use Rattle.lease_disk.specs.Region.{Region}
use Rattle.lossy_net.specs.Net.{Datagram, datagrams}
use Rattle.lossy_net.specs.declared.dir.Dir.TheVariants as dir
use Rattle.world.specs.Alone.{delivery_of}
use Rattle.dispatch.specs.Regions.{KeepsOthers}
use Rattle.events.specs.Seen.{Up}
use Rattle.world.specs.StepsAs.{IsFor, Returns, Moves, under}
use Rattle.world.specs.World.{WorldValue, states}
use Rattle.events.specs.declared.outcome.Outcome.{Outcome}
use Rattle.events.specs.declared.outcome.Outcome.TheVariants as outcome
use Rattle.lease_disk.proofs.Frames.{writes_count}
use Rattle.world.proofs.ShownLemmas.{its_answer, its_fails, reply_of}
use Rattle.world.proofs.StateLemmas.{moves}
use Rattle.world.proofs.ServedLemmas.{IsServed, beside_up, elsewhere, quiet_up, is_served, state_stays, spares_beside, spares_stay}
use Rattle.world.proofs.WorldLemmas.{TheCircuit, all_at, the_circuit, is_part_at, is_reply, whole, each_sent, each_kept, has_regions, other_way, still_world, same_circuit, apart, up_gone, up_off, up_sent, up_dropped, each_at}
use Rattle.world.proofs.world.World.up.Goals as goal

pub receive-result-requires-clause-ready : goal.receive-result-requires-clause-ready
receive-result-requires-clause-ready c = λ tells.
    let w : WorldValue = record { relays = c.self.inside.relays; net = c.self.inside.net; server = c.self.inside.server; disk = c.self.inside.disk } in
    let stays = state_stays c.region-region.result w.disk c.fail_at.new.self c.fail_at.ensures.state c.fail_at.ensures.others in
    subst (λ regions. AreReady regions w.server) (sym stays) c.self.invariant.ready

pub fail_at-requires-2 : goal.fail_at-requires-2
fail_at-requires-2 c =
    let w : WorldValue = record { relays = c.self.inside.relays; net = c.self.inside.net; server = c.self.inside.server; disk = c.self.inside.disk } in
    let own = all_at (λ (part : CircuitPart). part.region < length w.disk.regions) w.server.topology.circuits c.args.circuit c.part-part.result.now (has_regions w c.self.invariant) c.part-part.ensures in
    omega (arith, own, c.region-region.ensures, c.fail_at.ensures.others.count, (writes_count true _ (disk.device_of c.fail_at.new.self) (disk.device_of c.receive-result.new.disk) c.receive-result.ensures.frame))

pub returns-in_default-clause-moves : goal.returns-in_default-clause-moves
returns-in_default-clause-moves c =
    let w : WorldValue = record { relays = c.self.inside.relays; net = c.self.inside.net; server = c.self.inside.server; disk = c.self.inside.disk } in
    let k = c.args.circuit in
    let within = subst (λ (v : WorldValue). k < length v.net.circuits) (sym c.self.view_is) c.requires in
    let the = the_circuit w c.self.invariant k within in
    let on = sym c.serves.ensures ∙ c.if-not-serves.false in
    let P : WorldValue → Type 0 = λ v. Moves k (Up c.args.number c.args.now c.args.fault) (states v) (states v) outcome.Gone c.clear.new.self in
    subst P c.self.view_is (
    moves k (Up c.args.number c.args.now c.args.fault) w w the.part the.leases the.leases outcome.Gone c.clear.new.self refl (whole w) refl the.served the.its the.its (λ n other. refl) (λ n other p l there. refl)
    (up_gone k w the.part the.leases c.args.number c.args.now c.args.fault c.clear.new.self on (sym c.in_default.ensures) c.clear.ensures)
    )

pub invariant_of-self : goal.invariant_of-self
invariant_of-self c =
    let w : WorldValue = record { relays = c.self.inside.relays; net = c.self.inside.net; server = c.self.inside.server; disk = c.self.inside.disk } in
    let new : WorldValue = record w { net = c.send.new.self; server = c.receive-result.new.self; disk = c.fail_at-2.new.self } in
    let k = c.args.circuit in
    let within = subst (λ (v : WorldValue). k < length v.net.circuits) (sym c.self.view_is) c.requires in
    let the = the_circuit w c.self.invariant k within in
    let d : Datagram = record { proto = c.in-Some.proto; bytes = c.in-Some.datagram.now } in
    let is = c.self.invariant in
    let t = w.relays.topology in
    let on = sym c.serves.ensures ∙ c.if-not-serves.false in
    let region = c.region-region.result in
    let before = state_stays region w.disk c.fail_at.new.self c.fail_at.ensures.state c.fail_at.ensures.others in
    let after = state_stays region c.receive-result.new.disk c.fail_at-2.new.self c.fail_at-2.ensures.state c.fail_at-2.ensures.others in
    let sent : Datagram = record { proto = d.proto; bytes = c.receive-result.new.out } in
    let failing_call = ap (disk.failing_call_of c.fail_at.new.self) (sym c.region-region.ensures) ∙ c.fail_at.ensures.failing_call in
    let count = c.fail_at-2.ensures.others.count ∙ (writes_count true _ (disk.device_of c.fail_at.new.self) (disk.device_of c.receive-result.new.disk) c.receive-result.ensures.frame) ∙ c.fail_at.ensures.others.count in
    let done : (known : TheCircuit w k) → IsServed w k known.part known.leases c.args.now c.args.fault d c.receive-result.result sent.bytes (leases_in (disk.disk_region new.disk) new.server) =
    λ known. is_served w is k known on c.args.number d c.args.now c.args.fault c.relay-source.result c.part-part.result.now (sym c.in-Some.ensures) c.part-part.ensures c.relay-source.ensures
    (disk.disk_region c.fail_at.new.self) (disk.failing_call_of c.fail_at.new.self) before failing_call c.receive-result.result sent.bytes _ (leases_in (disk.disk_region new.disk) new.server)
    (c.receive-result.ensures.fails refl) c.receive-result.ensures.answer (ap (λ regions. leases_in regions new.server) after ∙ c.receive-result.ensures.leases refl) in
    still_world w new is refl c.receive-result.ensures.topology c.send.ensures.circuits count
    (subst (λ regions. AreReady regions new.server) (sym after) (c.receive-result.ensures.ready refl))
    (each_kept (IsFor t) t.circuits dir.Up w.net new.net is.addressed
    (other_way k dir.Up w.net new.net c.send.ensures.other_direction (λ n other. c.send.ensures.other_circuits n dir.Up (apart k n other))))
    (each_sent (Returns t) t.circuits dir.Down w.net new.net is.returned k sent c.send.ensures.kept (λ n other. c.send.ensures.other_circuits n dir.Down (apart k n other))
    (λ part there plans relay served its.
    let known : TheCircuit w k = record { part = part; leases = the.leases; there = there; served = ap (λ (t : Topology). slice_get t.circuits k) is.served ∙ there; its = the.its; book = the.book } in
    let r = done known in
    let answer = its_answer part (delivery_of part c.args.now d) c.args.fault known.leases.book in
    let P : Result (Unit {0}) Discard → Type 0 = λ result. IsAnswer answer result sent.bytes in
    let reply = reply_of part (delivery_of part c.args.now d) (its_fails part (delivery_of part c.args.now d) c.args.fault known.leases.book) known.leases.book sent.bytes (is_reply answer sent.bytes (subst P c.in-Ok.is r.answer)) in
    let found = each_at (IsFor t k part) (datagrams w.net k dir.Up) c.args.number d (is.addressed k part there) (sym c.in-Some.ensures) plans c.args.now served in
    c.reply_comes_to_its_circuit.ensures (under t plans) relay k part (delivery_of part c.args.now d) sent.bytes reply.book there served (is.sound.ids k part there) its (is_part_at w is k part there) c.are_bytes.ensures found reply.answer
    (λ six. is.sound.listens_differ)))

pub returns-in-Ok-clause-moves : goal.returns-in-Ok-clause-moves
returns-in-Ok-clause-moves c =
    let w : WorldValue = record { relays = c.self.inside.relays; net = c.self.inside.net; server = c.self.inside.server; disk = c.self.inside.disk } in
    let new : WorldValue = record w { net = c.send.new.self; server = c.receive-result.new.self; disk = c.fail_at-2.new.self } in
    let k = c.args.circuit in
    let within = subst (λ (v : WorldValue). k < length v.net.circuits) (sym c.self.view_is) c.requires in
    let the = the_circuit w c.self.invariant k within in
    let on = sym c.serves.ensures ∙ c.if-not-serves.false in
    let d : Datagram = record { proto = c.in-Some.proto; bytes = c.in-Some.datagram.now } in
    let region = c.region-region.result in
    let before = state_stays region w.disk c.fail_at.new.self c.fail_at.ensures.state c.fail_at.ensures.others in
    let after = state_stays region c.receive-result.new.disk c.fail_at-2.new.self c.fail_at-2.ensures.state c.fail_at-2.ensures.others in
    let failing_call = ap (disk.failing_call_of c.fail_at.new.self) (sym c.region-region.ensures) ∙ c.fail_at.ensures.failing_call in
    let r = is_served w c.self.invariant k the on c.args.number d c.args.now c.args.fault c.relay-source.result c.part-part.result.now (sym c.in-Some.ensures) c.part-part.ensures c.relay-source.ensures
    (disk.disk_region c.fail_at.new.self) (disk.failing_call_of c.fail_at.new.self) before failing_call c.receive-result.result c.receive-result.new.out _ (leases_in (disk.disk_region new.disk) new.server)
    (c.receive-result.ensures.fails refl) c.receive-result.ensures.answer (ap (λ regions. leases_in regions new.server) after ∙ c.receive-result.ensures.leases refl) in
    let beside = beside_up w c.self.invariant k the on c.args.number d c.args.now c.relay-source.result c.part-part.result.now region (sym c.in-Some.ensures) c.part-part.ensures c.relay-source.ensures c.region-region.ensures
    c.fail_at.new.self c.receive-result.new.disk c.fail_at-2.new.self c.fail_at.ensures.others c.receive-result.ensures.frame c.fail_at-2.ensures.others in
    let quiet = quiet_up w c.self.invariant k the on c.args.number d c.args.now c.relay-source.result c.part-part.result.now (sym c.in-Some.ensures) c.part-part.ensures c.relay-source.ensures
    c.fail_at.new.self c.receive-result.new.disk c.receive-result.ensures.frame in
    let own : c.part-part.result.now ≡ the.part = same_Some c.part-part.result.now the.part (sym c.part-part.ensures ∙ the.served) in
    let cleared : disk.failing_call_of new.disk the.part.region ≡ 0 =
    subst (λ r. disk.failing_call_of new.disk r ≡ 0) (c.region-region.ensures ∙ ap (λ (part : CircuitPart). part.region) own) c.fail_at-2.ensures.failing_call in
    let P : WorldValue → Type 0 = λ v. Moves k (Up c.args.number c.args.now c.args.fault) (states v) (states new) (outcome.SentDown c.len-len.result) c.clear-in-Ok.new.self in
    subst P c.self.view_is (
    moves k (Up c.args.number c.args.now c.args.fault) w new the.part the.leases (after_datagram the.part (delivery_of the.part c.args.now d) c.args.fault the.leases) (outcome.SentDown c.len-len.result) c.clear-in-Ok.new.self
    (ap (λ (t : Topology). t.circuits) c.receive-result.ensures.topology) (whole w) r.size the.served the.its r.leases r.others
    (λ n other p l there. same_circuit w new n p l refl c.send.ensures.quota (c.send.ensures.other_circuits n dir.Up (apart k n other)) (c.send.ensures.other_circuits n dir.Down (apart k n other)) refl
    (beside.region p.region (elsewhere w c.self.invariant k n c.part-part.result.now p c.part-part.ensures there other region c.region-region.ensures)) (beside.failing_call p.region (elsewhere w c.self.invariant k n c.part-part.result.now p c.part-part.ensures there other region c.region-region.ensures)))
    (up_sent k w new the.part the.leases c.args.number c.args.now c.args.fault d c.receive-result.result c.receive-result.new.out (sym c.in-Some.ensures) r.answer refl on c.send.ensures.quota c.send.ensures.other_direction refl cleared
    (λ nothing. ap (λ (regions : ℕ → Region). regions the.part.region) (after ∙ quiet nothing ∙ before))
    c.len-len.result c.clear-in-Ok.new.self c.in-Ok.is c.send.ensures.kept c.len-len.ensures.value c.clear-in-Ok.ensures)
    )

pub invariant_of-self-in-Err : goal.invariant_of-self-in-Err
invariant_of-self-in-Err c =
    let w : WorldValue = record { relays = c.self.inside.relays; net = c.self.inside.net; server = c.self.inside.server; disk = c.self.inside.disk } in
    let new : WorldValue = record w { server = c.receive-result.new.self; disk = c.fail_at-2.new.self } in
    let is = c.self.invariant in
    let after = state_stays c.region-region.result c.receive-result.new.disk c.fail_at-2.new.self c.fail_at-2.ensures.state c.fail_at-2.ensures.others in
    let count = c.fail_at-2.ensures.others.count ∙ (writes_count true _ (disk.device_of c.fail_at.new.self) (disk.device_of c.receive-result.new.disk) c.receive-result.ensures.frame) ∙ c.fail_at.ensures.others.count in
    still_world w new is refl c.receive-result.ensures.topology refl count
    (subst (λ regions. AreReady regions new.server) (sym after) (c.receive-result.ensures.ready refl)) is.addressed is.returned

pub returns-in-Err-clause-moves : goal.returns-in-Err-clause-moves
returns-in-Err-clause-moves c =
    let w : WorldValue = record { relays = c.self.inside.relays; net = c.self.inside.net; server = c.self.inside.server; disk = c.self.inside.disk } in
    let new : WorldValue = record w { server = c.receive-result.new.self; disk = c.fail_at-2.new.self } in
    let k = c.args.circuit in
    let within = subst (λ (v : WorldValue). k < length v.net.circuits) (sym c.self.view_is) c.requires in
    let the = the_circuit w c.self.invariant k within in
    let on = sym c.serves.ensures ∙ c.if-not-serves.false in
    let d : Datagram = record { proto = c.in-Some.proto; bytes = c.in-Some.datagram.now } in
    let region = c.region-region.result in
    let before = state_stays region w.disk c.fail_at.new.self c.fail_at.ensures.state c.fail_at.ensures.others in
    let after = state_stays region c.receive-result.new.disk c.fail_at-2.new.self c.fail_at-2.ensures.state c.fail_at-2.ensures.others in
    let failing_call = ap (disk.failing_call_of c.fail_at.new.self) (sym c.region-region.ensures) ∙ c.fail_at.ensures.failing_call in
    let r = is_served w c.self.invariant k the on c.args.number d c.args.now c.args.fault c.relay-source.result c.part-part.result.now (sym c.in-Some.ensures) c.part-part.ensures c.relay-source.ensures
    (disk.disk_region c.fail_at.new.self) (disk.failing_call_of c.fail_at.new.self) before failing_call c.receive-result.result c.receive-result.new.out _ (leases_in (disk.disk_region new.disk) new.server)
    (c.receive-result.ensures.fails refl) c.receive-result.ensures.answer (ap (λ regions. leases_in regions new.server) after ∙ c.receive-result.ensures.leases refl) in
    let beside = beside_up w c.self.invariant k the on c.args.number d c.args.now c.relay-source.result c.part-part.result.now region (sym c.in-Some.ensures) c.part-part.ensures c.relay-source.ensures c.region-region.ensures
    c.fail_at.new.self c.receive-result.new.disk c.fail_at-2.new.self c.fail_at.ensures.others c.receive-result.ensures.frame c.fail_at-2.ensures.others in
    let quiet = quiet_up w c.self.invariant k the on c.args.number d c.args.now c.relay-source.result c.part-part.result.now (sym c.in-Some.ensures) c.part-part.ensures c.relay-source.ensures
    c.fail_at.new.self c.receive-result.new.disk c.receive-result.ensures.frame in
    let own : c.part-part.result.now ≡ the.part = same_Some c.part-part.result.now the.part (sym c.part-part.ensures ∙ the.served) in
    let cleared : disk.failing_call_of new.disk the.part.region ≡ 0 =
    subst (λ r. disk.failing_call_of new.disk r ≡ 0) (c.region-region.ensures ∙ ap (λ (part : CircuitPart). part.region) own) c.fail_at-2.ensures.failing_call in
    let P : WorldValue → Type 0 = λ v. Moves k (Up c.args.number c.args.now c.args.fault) (states v) (states new) (outcome.Dropped c.in-Err.why) c.receive-result.new.out in
    subst P c.self.view_is (
    moves k (Up c.args.number c.args.now c.args.fault) w new the.part the.leases (after_datagram the.part (delivery_of the.part c.args.now d) c.args.fault the.leases) (outcome.Dropped c.in-Err.why) c.receive-result.new.out
    (ap (λ (t : Topology). t.circuits) c.receive-result.ensures.topology) (whole w) r.size the.served the.its r.leases r.others
    (λ n other p l there. same_circuit w new n p l refl refl refl refl refl (beside.region p.region (elsewhere w c.self.invariant k n c.part-part.result.now p c.part-part.ensures there other region c.region-region.ensures))
    (beside.failing_call p.region (elsewhere w c.self.invariant k n c.part-part.result.now p c.part-part.ensures there other region c.region-region.ensures)))
    (up_dropped k w new the.part the.leases c.args.number c.args.now c.args.fault d c.receive-result.result c.receive-result.new.out (sym c.in-Some.ensures) r.answer refl on refl refl refl cleared
    (λ nothing. ap (λ (regions : ℕ → Region). regions the.part.region) (after ∙ quiet nothing ∙ before))
    c.in-Err.why c.in-Err.is refl)
    )

pub returns-in_default-clause-others : goal.returns-in_default-clause-others
returns-in_default-clause-others c =
    let w = c.args.self.now in spares_stay w.relays.topology.circuits (disk.device_of w.disk) (disk.device_of w.disk) refl

pub returns-in-Ok-clause-others : goal.returns-in-Ok-clause-others
returns-in-Ok-clause-others c =
    let w : WorldValue = record { relays = c.self.inside.relays; net = c.self.inside.net; server = c.self.inside.server; disk = c.self.inside.disk } in
    let k = c.args.circuit in
    let within = subst (λ (v : WorldValue). k < length v.net.circuits) (sym c.self.view_is) c.requires in
    let is = c.self.invariant in
    let the = the_circuit w is k within in
    let on = sym c.serves.ensures ∙ c.if-not-serves.false in
    let d : Datagram = record { proto = c.in-Some.proto; bytes = c.in-Some.datagram.now } in
    let region = c.region-region.result in
    let given = c.part-part.result.now in
    let beside = beside_up w is k the on c.args.number d c.args.now c.relay-source.result given region (sym c.in-Some.ensures) c.part-part.ensures c.relay-source.ensures c.region-region.ensures
    c.fail_at.new.self c.receive-result.new.disk c.fail_at-2.new.self c.fail_at.ensures.others c.receive-result.ensures.frame c.fail_at-2.ensures.others in
    let P : WorldValue → Type 0 = λ v. KeepsOthers v.relays.topology.circuits (disk.device_of v.disk) (disk.device_of c.fail_at-2.new.self) in
    subst P c.self.view_is
    (spares_beside w.relays.topology.circuits region (disk.device_of w.disk) (disk.device_of c.fail_at-2.new.self) k given
    (ap (λ (t : Topology). slice_get t.circuits k) (sym is.served) ∙ c.part-part.ensures) (sym c.region-region.ensures) beside)

pub returns-in-Err-clause-others : goal.returns-in-Err-clause-others
returns-in-Err-clause-others c =
    let w : WorldValue = record { relays = c.self.inside.relays; net = c.self.inside.net; server = c.self.inside.server; disk = c.self.inside.disk } in
    let k = c.args.circuit in
    let within = subst (λ (v : WorldValue). k < length v.net.circuits) (sym c.self.view_is) c.requires in
    let is = c.self.invariant in
    let the = the_circuit w is k within in
    let on = sym c.serves.ensures ∙ c.if-not-serves.false in
    let d : Datagram = record { proto = c.in-Some.proto; bytes = c.in-Some.datagram.now } in
    let region = c.region-region.result in
    let given = c.part-part.result.now in
    let beside = beside_up w is k the on c.args.number d c.args.now c.relay-source.result given region (sym c.in-Some.ensures) c.part-part.ensures c.relay-source.ensures c.region-region.ensures
    c.fail_at.new.self c.receive-result.new.disk c.fail_at-2.new.self c.fail_at.ensures.others c.receive-result.ensures.frame c.fail_at-2.ensures.others in
    let P : WorldValue → Type 0 = λ v. KeepsOthers v.relays.topology.circuits (disk.device_of v.disk) (disk.device_of c.fail_at-2.new.self) in
    subst P c.self.view_is
    (spares_beside w.relays.topology.circuits region (disk.device_of w.disk) (disk.device_of c.fail_at-2.new.self) k given
    (ap (λ (t : Topology). slice_get t.circuits k) (sym is.served) ∙ c.part-part.ensures) (sym c.region-region.ensures) beside)

pub returns-then-not-serves-clause-moves : goal.returns-then-not-serves-clause-moves
returns-then-not-serves-clause-moves c =
    let w : WorldValue = record { relays = c.self.inside.relays; net = c.self.inside.net; server = c.self.inside.server; disk = c.self.inside.disk } in
    let k = c.args.circuit in
    let within = subst (λ (v : WorldValue). k < length v.net.circuits) (sym c.self.view_is) c.requires in
    let the = the_circuit w c.self.invariant k within in
    let off = sym c.serves.ensures ∙ c.if-not-serves.true in
    let P : WorldValue → Type 0 = λ v. Moves k (Up c.args.number c.args.now c.args.fault) (states v) (states v) c.gone.result c.gone.new.out in
    let O : Outcome → Type 0 = λ o. Moves k (Up c.args.number c.args.now c.args.fault) (states w) (states w) o c.gone.new.out in
    subst P c.self.view_is (subst O (sym c.gone.ensures.gone) (
    moves k (Up c.args.number c.args.now c.args.fault) w w the.part the.leases the.leases outcome.Gone c.gone.new.out refl (whole w) refl the.served the.its the.its (λ n other. refl) (λ n other p l there. refl)
    (up_off k w the.part the.leases c.gone.new.out off c.gone.ensures.empty c.args.number c.args.now c.args.fault)
    ))

pub returns-then-not-serves-clause-others : goal.returns-then-not-serves-clause-others
returns-then-not-serves-clause-others c =
    let w = c.args.self.now in spares_stay w.relays.topology.circuits (disk.device_of w.disk) (disk.device_of w.disk) refl
