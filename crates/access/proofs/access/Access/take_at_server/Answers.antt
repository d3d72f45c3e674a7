use Rattle.std.proofs.Common.{◌≡◌, ◌∙◌, ◌++◌, length, min, refl, sym, ap, subst, arith}
use Rattle.std.proofs.lemmas.List.{length-map}
use Rattle.config.specs.Topology.{Topology}
use Rattle.dispatch.specs.Batch.{circuits_of}
use Rattle.dispatch.specs.Regions.{HasRegions}
use Rattle.access.specs.Access.{AccessValue, HasServed}
use Rattle.access.specs.Batch.{AreReceived, AreReceivedAgain, AreReplied, HasTried, serving}
use Rattle.access.specs.Taken.{all_delivered, delivered}
use Rattle.access.specs.Polling.{IsPolled, deliveries_in}
use Rattle.access.specs.declared.batch.Batch.{Batch}
use Rattle.access.specs.contracts.access.Access.{the_view}
use Rattle.access.proofs.ServedLemmas.{access_kept, all_stays, received_stays}
use Rattle.access.proofs.access.Access.take_at_server.Goals as goal

pub receive_again-requires-clause-regions : goal.receive_again-requires-clause-regions
receive_again-requires-clause-regions c =
    let inside = c.self.inside in
    let stays = received_stays (all_delivered c.args.now c.poll.new.self.taken) c.receive.new.self.answers.answers _ _ (c.receive.ensures.received inside.tally c.poll.new.history.entries) in
    subst (λ count. HasRegions c.receive.new.server.topology.circuits count) (sym stays.regions) (subst (λ (t : Topology). HasRegions t.circuits inside.disk.regions) (sym stays.topology) c.self.invariant.5)

-- the circuits of the answers are those of their datagrams, by the server's topology after the batch
pub receive_again-requires-clause-circuits : goal.receive_again-requires-clause-circuits
receive_again-requires-clause-circuits c =
    let inside = c.self.inside in
    let now = c.args.now in
    let stays = received_stays (all_delivered now c.poll.new.self.taken) c.receive.new.self.answers.answers _ _ (c.receive.ensures.received inside.tally c.poll.new.history.entries) in
    let taken = ap (λ (b : Batch). b.taken) c.receive.ensures.rest in
    c.receive.ensures.circuits
    ∙ ap (λ (t : Topology). circuits_of t (all_delivered now c.poll.new.self.taken)) (sym stays.topology)
    ∙ ap (λ ds. circuits_of c.receive.new.server.topology (all_delivered now ds)) (sym taken)

pub invariant_of-self : goal.invariant_of-self
invariant_of-self c =
    let inside = c.self.inside in
    let stays = all_stays (all_delivered c.args.now c.poll.new.self.taken) (all_delivered c.args.now c.receive.new.self.taken) c.receive.new.self.answers.answers (length c.receive.new.self.taken) _ _ _
    c.reply.new.tally c.reply.new.history.entries (c.receive.ensures.received inside.tally c.poll.new.history.entries) c.receive_again.ensures.again in
    access_kept inside.relays.topology inside.sockets inside.server c.receive_again.new.server inside.disk.regions c.receive_again.new.disk.regions inside.port inside.batch.most c.receive.new.self.most
    inside.history.id c.receive_again.new.history.id inside.listen4 inside.listen6 c.self.invariant stays.topology stays.regions (ap (λ (b : Batch). b.most) c.receive.ensures.rest ∙ c.poll.ensures.most)
    (c.receive_again.ensures.same ∙ c.reply.ensures.same ∙ c.poll.ensures.same)

pub returns-clause-served : goal.returns-clause-served
returns-clause-served c =
    let now = c.args.now in
    let inside = c.self.inside in
    let polled = c.poll.ensures.taken in
    let entries = polled.entries in
    let taken = ap (λ (b : Batch). b.taken) c.receive.ensures.rest in
    let datagrams = deliveries_in now entries in
    let items = c.receive.new.self.taken in
    let circuits = c.receive.new.self.answers.circuits in
    let answers = c.receive.new.self.answers.answers in
    let start = serving inside.server inside.disk inside.tally (inside.history.entries ++ entries) in
    let saved = serving c.receive.new.server c.receive.new.disk inside.tally c.poll.new.history.entries in
    let sent = serving c.receive.new.server c.receive.new.disk c.reply.new.tally c.reply.new.history.entries in
    let new = serving c.receive_again.new.server c.receive_again.new.disk c.receive_again.new.tally c.receive_again.new.history.entries in
    let all : all_delivered now items ≡ datagrams = ap (λ t. all_delivered now t) taken ∙ polled.datagrams now in
    let many : length items ≡ length datagrams = sym (length-map items (delivered now)) ∙ ap length all in
    let count : c.len.result ≡ length datagrams = c.len.ensures ∙ many in
    let size : length items ≡ c.len.result = sym c.len.ensures in
    let answered : length answers ≡ length items = c.receive.ensures.count ∙ sym (ap length taken) in
    let least : min (length items) (length answers) ≡ c.len.result = omega (arith, answered, size) in
    let received = subst (λ ds. AreReceived ds answers start saved) (polled.datagrams now)
    (subst (λ h. AreReceived (all_delivered now c.poll.new.self.taken) answers (serving inside.server inside.disk inside.tally h) saved) polled.history (c.receive.ensures.received inside.tally c.poll.new.history.entries)) in
    let theirs : circuits ≡ circuits_of inside.server.topology datagrams = c.receive.ensures.circuits ∙ ap (circuits_of inside.server.topology) (polled.datagrams now) in
    let replied = subst (λ n. HasTried (AreReplied datagrams (circuits_of inside.server.topology datagrams) answers n) inside.tally c.reply.new.tally c.poll.new.history.entries c.reply.new.history.entries) least
    (subst (λ cs. HasTried (AreReplied datagrams cs answers (min (length items) (length answers))) inside.tally c.reply.new.tally c.poll.new.history.entries c.reply.new.history.entries) theirs
    (subst (λ ds. HasTried (AreReplied ds circuits answers (min (length items) (length answers))) inside.tally c.reply.new.tally c.poll.new.history.entries c.reply.new.history.entries) all (c.reply.ensures.replied now))) in
    let again = subst (λ n. AreReceivedAgain datagrams answers n sent new) size (subst (λ ds. AreReceivedAgain ds answers (length items) sent new) all c.receive_again.ensures.again) in
    let stays = all_stays datagrams datagrams answers c.len.result start saved new c.reply.new.tally c.reply.new.history.entries received again in
    subst (λ (old : AccessValue). HasServed now c.len.result old
    (record (the_view inside) { server = c.receive_again.new.server; disk = c.receive_again.new.disk; first = c.receive.new.self.first; batch = c.receive.new.self.most; tally = c.receive_again.new.tally; history = c.receive_again.new.history.entries })) c.self.view_is (record {
      entries = entries;
      answers = answers;
      saved = saved;
      tally = c.reply.new.tally;
      history = c.reply.new.history.entries;
      polled = subst (λ next. IsPolled inside.batch.most inside.batch.first next entries) (sym (ap (λ (b : Batch). b.first) c.receive.ensures.rest)) polled.polled;
      many = count;
      received = received;
      replied = replied;
      again = again;
      kept = record {
        topology = refl;
        served = stays.topology;
        regions = stays.regions;
        formats = refl;
        port = refl;
        batch = ap (λ (b : Batch). b.most) c.receive.ensures.rest ∙ c.poll.ensures.most;
        turns = refl;
        clock = refl;
      };
    })
