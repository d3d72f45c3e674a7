use Rattle.std.proofs.Common.{◌≡◌, ◌∙◌, ◌<◌, ℕ, true, false, refl, sym, ap, length, min, subst, arith, rules}
use Rattle.std.specs.Prelude.{slice_index_or}
use Rattle.std.proofs.lemmas.Option.{slice_get_within}
use Rattle.counts.specs.Tally.{tallied}
use Rattle.counts.specs.declared.counts.Fate.{Fate}
use Rattle.counts.specs.declared.counts.Fate.TheVariants as fate
use Rattle.counts.specs.declared.tally.Tally.{Tally}
use Rattle.dispatch.specs.Answers.{answer_of, circuit_at}
use Rattle.udp.specs.History.{HistoryValue}
use Rattle.access.specs.Batch.{AreReplied, HasTried, IsReplied, IsRepliedAt, is_repeated, fate_at_server}
use Rattle.access.specs.Taken.{all_delivered, delivered}
use Rattle.access.specs.Turn.{HasSentOn}
use Rattle.access.proofs.ReplyLemmas.{answer_at, delivered_in, dropped_on, no_datagram, none_left, replied_at, replied_later, replied_now, sent_ok, servers_role, tried_more}
use Rattle.access.proofs.batch.Batch.reply.Goals as goal
use Rattle.access.proofs.batch.Batch.reply.Goals.{then-not-again, in-Ok, in-Err, else-not-again}

abbrev Values : Type 0
Values = Tally × HistoryValue

pub parts-preserved : goal.parts-preserved
parts-preserved c =
    let taken = c.args.self.now.taken in
    let circuits = c.args.self.now.answers.circuits in
    let answers = c.args.self.now.answers.answers in
    let index = c.parts.index in
    let was = c.parts.invariant in
    let slice = c.as_slice-taken.result.now in
    let d = slice_index_or slice index no_datagram in
    let answer = answer_of c.in-Some.answer.now in
    let again = is_repeated answer in
    let circuit = circuit_at circuits index in
    let within : index < length slice = search rules in
    let its = answer_at answers index c.get.result c.in-Some.answer c.get.ensures c.in-Some.is in
    let there = λ (now : ℕ). delivered_in now taken slice index c.as_slice-taken.ensures.value within in
    let Done : Values → Type 0 = λ (v : Values). (v.1.id ≡ c.parts.history.id) × ((now : ℕ) → HasTried (IsReplied again circuit (delivered now d) answer) c.parts.tally v.0 c.parts.history.entries v.1.entries) in
    let by : Done (c.if-not-again.tally, c.if-not-again.history) = elim c.if-not-again.branch [
      | then-not-again w ↦
          let first : again ≡ false = sym c.is_repeated-again.ensures ∙ w.if-not-again.true in
          let bound = c.requires.bound in
          let socket = w.server-socket.result.now.role in
          let role = servers_role d.proto w.server-socket.result.now c.args.sockets.now.listen4 c.args.sockets.now.listen6 bound.listen4.role bound.listen6.role w.server-socket.ensures.v4 w.server-socket.ensures.v6 in
          let IsSent : Fate × HistoryValue → Type 0 = λ (v : Fate × HistoryValue). (v.1.id ≡ c.parts.history.id) × HasSentOn socket d.source fate.Answered answer c.parts.history.entries v.1.entries v.0 in
          let sent : IsSent (w.match-reply.became, w.match-reply.history) = elim w.match-reply.branch [
            | in-Ok u ↦
                subst IsSent (sym (λ i. (u.became-is i, u.history-is i))) (
                  u.send.ensures.same,
                  sent_ok socket d.source answer u.in-Ok.reply.now u.as_slice.result.now u.send.result _ _ u.if_sent-became.result u.in-Ok.ensures.ok u.as_slice.ensures.value u.send.ensures.entries u.if_sent-became.ensures,
                )
            | in-Err u ↦
                subst IsSent (sym (λ i. (u.became-is i, u.history-is i))) (refl, dropped_on socket d.source answer u.in-Err.why c.parts.history.entries u.in-Err.ensures.err)
          ] in
          let count = w.count_at_server.ensures ∙ ap (λ k. tallied (fate_at_server k w.match-reply.became) c.parts.tally) w.circuit.ensures in
          subst Done (sym (λ i. (w.tally-is i, w.history-is i))) (
            sent.0,
            λ now. replied_now again socket circuit (delivered now d) answer _ _ _ _ _ first role sent.1 count,
          )
      | else-not-again w ↦
          let later : again ≡ true = sym c.is_repeated-again.ensures ∙ w.if-not-again.false in
          subst Done (sym (λ i. (w.tally-is i, w.history-is i))) (refl, λ now. replied_later again circuit (delivered now d) answer _ _ later)
    ] in
    record {
      index = search rules;
      answered = let inside = slice_get_within answers index answer its in omega (arith, inside);
      same = by.0 ∙ was.same;
      replied = λ now.
          tried_more (IsRepliedAt (all_delivered now taken) circuits answers) index _ _ _ _ _ _ (was.replied now)
          (replied_at (all_delivered now taken) circuits answers index (delivered now d) answer _ _ _ _ (there now) its (by.1 now));
    }

pub returns-clause-replied : goal.returns-clause-replied
returns-clause-replied c = λ now.
    let taken = c.args.self.now.taken in
    let circuits = c.args.self.now.answers.circuits in
    let answers = c.args.self.now.answers.answers in
    let over : c.parts.index ≡ length taken = search rules in
    let all : c.parts.index ≡ min (length taken) (length answers) = omega (arith, over, c.parts.invariant.answered) in
    subst (λ n. HasTried (AreReplied (all_delivered now taken) circuits answers n) c.args.tally.now c.parts.tally c.args.history.now.entries c.parts.history.entries) all (c.parts.invariant.replied now)

pub returns-in_default-clause-replied : goal.returns-in_default-clause-replied
returns-in_default-clause-replied c = λ now.
    let taken = c.args.self.now.taken in
    let circuits = c.args.self.now.answers.circuits in
    let answers = c.args.self.now.answers.answers in
    let was = c.parts.invariant in
    let past = none_left answers c.parts.index c.get.result c.get.ensures c.in_default.is in
    let all : c.parts.index ≡ min (length taken) (length answers) = omega (arith, past, was.index, was.answered) in
    subst (λ n. HasTried (AreReplied (all_delivered now taken) circuits answers n) c.args.tally.now c.parts.tally c.args.history.now.entries c.parts.history.entries) all (was.replied now)
