use Rattle.std.proofs.Common.{◌≡◌, ◌∙◌, ◌+◌, ◌<◌, List, false, length, sym, ap, subst, rules}
use Rattle.std.specs.Prelude.{slice_index_or}
use Rattle.lease_disk.proofs.Frames.{writes_count}
use Rattle.lease_disk.specs.FileDisk.{FileDiskValue, device_of}
use Rattle.config.specs.Topology.{Topology}
use Rattle.requests.specs.Addressee.{addressee}
use Rattle.dispatch.specs.Answers.{answer_of, circuit_at, circuit_in}
use Rattle.dispatch.specs.ServerValue.{ServerValue}
use Rattle.udp.specs.History.{HistoryValue}
use Rattle.counts.specs.Tally.{tallied}
use Rattle.counts.specs.declared.tally.Tally.{Tally}
use Rattle.access.specs.declared.datagrams.Datagram.{Datagram}
use Rattle.access.specs.Batch.{AreReceivedAgain, fate_at_server, serving}
use Rattle.access.specs.Taken.{all_delivered, delivered}
use Rattle.access.proofs.AgainLemmas.{again_more, answered_alone, answered_before, received_again}
use Rattle.access.proofs.ReplyLemmas.{answer_at, circuit_is, delivered_in, no_datagram, servers_role}
use Rattle.access.proofs.batch.Batch.receive_again.Goals as goal
use Rattle.access.proofs.batch.Batch.receive_again.Goals.{then-again, else-again}

abbrev Values : Type 0
Values = ServerValue × FileDiskValue × Tally × HistoryValue

pub parts-preserved : goal.parts-preserved
parts-preserved c =
    let now = c.args.now in
    let items = c.args.self.now.taken in
    let taken = all_delivered now items in
    let answers = c.args.self.now.answers.answers in
    let index = c.parts.index in
    let was = c.parts.invariant in
    let start = serving c.args.server.now c.args.disk.now c.args.tally.now c.args.history.now.entries in
    let before = serving c.parts.server c.parts.disk c.parts.tally c.parts.history.entries in
    let slice = c.as_slice-taken.result.now in
    let within : index < length slice = search rules in
    let its = answer_at answers index c.get.result c.in-Some.answer c.get.ensures c.in-Some.is in
    let Done : Values → Type 0 = λ (v : Values). (v.3.id ≡ c.args.history.now.id) × (v.0.topology ≡ c.args.server.now.topology) × (v.1.regions ≡ c.args.disk.now.regions)
    × AreReceivedAgain taken answers (index + 1) start (serving v.0 v.1 v.2 v.3.entries) in
    let by : Done (c.if-again.server, c.if-again.disk, c.if-again.tally, c.if-again.history) = elim c.if-again.branch [
      | then-again w ↦
          let d = slice_index_or slice index no_datagram in
          let there = delivered_in now items slice index c.as_slice-taken.ensures.value within in
          let made = w.receive-made in
          let bound = c.requires.bound in
          let role = servers_role d.proto w.server-socket.result.now c.args.sockets.now.listen4 c.args.sockets.now.listen6 bound.listen4.role bound.listen6.role w.server-socket.ensures.v4 w.server-socket.ensures.v6 in
          let new = serving made.new.self made.new.disk w.count_at_server.new.tally w.send_on-became.new.history.entries in
          let kept = writes_count false _ (device_of c.parts.disk) (device_of made.new.disk) made.ensures.frame in
          let circuit = w.circuit.ensures
          ∙ ap (λ cs. circuit_at cs index) c.requires.circuits
          ∙ circuit_is c.args.server.now.topology taken index (delivered now d) there
          ∙ ap (λ (t : Topology). circuit_in (addressee t (delivered now d))) (sym was.topology) in
          let count = w.count_at_server.ensures ∙ ap (λ k. tallied (fate_at_server k w.send_on-became.result) c.parts.tally) circuit in
          let answered = answered_alone now d c.parts.server made.new.self c.parts.disk made.new.disk c.parts.tally w.count_at_server.new.tally c.parts.history.entries w.send_on-became.new.history.entries made.result w.bytes-bytes.result.now made.new.out
          w.as_slice-reply.result.now w.server-socket.result.now.role w.send_on-became.result w.bytes-bytes.ensures made.ensures.answer made.ensures.books made.ensures.calls made.ensures.topology kept role w.as_slice-reply.ensures.value
          w.send_on-became.ensures.sent count in
          subst Done (sym (λ i. (w.server-is i, w.disk-is i, w.tally-is i, w.history-is i))) (
            w.send_on-became.ensures.same ∙ was.same,
            answered.stays.topology ∙ was.topology,
            answered.stays.regions ∙ was.regions,
            again_more taken answers index start before new was.again
                (received_again taken answers index (delivered now d) (answer_of c.in-Some.answer.now) before new there its (sym c.is_repeated-again.ensures ∙ w.if-again.true) answered),
          )
      | else-again w ↦
          subst Done (sym (λ i. (w.server-is i, w.disk-is i, w.tally-is i, w.history-is i))) (
            was.same,
            was.topology,
            was.regions,
            again_more taken answers index start before before was.again
                (answered_before now items answers index (answer_of c.in-Some.answer.now) before (subst (λ (ds : List Datagram). index < length ds) c.as_slice-taken.ensures.value within) its (sym c.is_repeated-again.ensures ∙ w.if-again.false)),
          )
    ] in
    record { index = search rules; same = by.0; topology = by.1; regions = by.2; again = by.3 }
