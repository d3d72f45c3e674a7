use Rattle.std.proofs.Common.{sym, ap, ◌∙◌}
use Rattle.std.specs.Prelude.{slice_get}
use Rattle.std.proofs.lemmas.Result.{err_from_is_err_and}
use Rattle.types.specs.declared.dest.Proto.TheVariants.{V4}
use Rattle.relay.specs.Down4.{addressed_by4}
use Rattle.relay.specs.Relays.{for_circuit, own_circuit}
use Rattle.relay.proofs.RelaysLemmas.{no_frame, no_circuit, to_circuit, no_reply4, no_suboptions, frame4_there}
use Rattle.relay.proofs.relays.Relays.down4.Goals as goal

pub returns-in_err-reply-clause-err : goal.returns-in_err-reply-clause-err
returns-in_err-reply-clause-err c =
    let p = err_from_is_err_and c.from_residual.result c.from_residual.ensures.1 in
    rw (p.1, p.2)
    (no_frame c.args.self.now.topology c.args.relay V4 c.args.datagram.now c.in_err-reply.field-0.0
    (no_reply4 c.args.datagram.now c.in_err-reply.field-0.0 c.in_err-reply.ensures.value))

pub returns-in_err-suboptions-clause-err : goal.returns-in_err-suboptions-clause-err
returns-in_err-suboptions-clause-err c =
    let p = err_from_is_err_and c.from_residual-in_err-suboptions.result c.from_residual-in_err-suboptions.ensures.1 in
    rw (p.1, p.2)
    (no_frame c.args.self.now.topology c.args.relay V4 c.args.datagram.now c.in_err-suboptions.field-0.0
    (no_suboptions c.args.datagram.now c.in_ok-reply.reply c.in_err-suboptions.field-0.0 c.in_ok-reply.ensures.value c.in_err-suboptions.ensures))

pub returns-in_err-circuit-clause-err : goal.returns-in_err-circuit-clause-err
returns-in_err-circuit-clause-err c =
    let p = err_from_is_err_and c.from_residual-in_err-circuit.result c.from_residual-in_err-circuit.ensures.1 in
    let topology = c.args.self.now.topology in
    rw (p.1, p.2)
    (no_circuit topology c.args.relay V4 c.args.datagram.now (addressed_by4 c.in_ok-reply.reply c.in_ok-suboptions.suboptions) c.in_err-circuit.field-0.0
    (frame4_there c.args.datagram.now c.in_ok-reply.reply c.in_ok-suboptions.suboptions c.in_ok-reply.ensures.value c.in_ok-suboptions.ensures)
    (ap (own_circuit topology c.args.relay) (sym c.get.ensures) ∙ c.in_err-circuit.ensures.err))

pub returns-in_err-dest-clause-err : goal.returns-in_err-dest-clause-err
returns-in_err-dest-clause-err c =
    let p = err_from_is_err_and c.from_residual-in_err-dest.result c.from_residual-in_err-dest.ensures.1 in
    let topology = c.args.self.now.topology in
    let there = ap (λ v. slice_get v.topology.circuits c.in_ok-circuit.circuit) (sym c.self.view_is) ∙ c.part.ensures in
    rw (p.1, p.2)
    (to_circuit topology c.args.relay V4 c.args.datagram.now (addressed_by4 c.in_ok-reply.reply c.in_ok-suboptions.suboptions) c.in_ok-circuit.circuit c.part.result.now
    (frame4_there c.args.datagram.now c.in_ok-reply.reply c.in_ok-suboptions.suboptions c.in_ok-reply.ensures.value c.in_ok-suboptions.ensures)
    (ap (own_circuit topology c.args.relay) (sym c.get.ensures) ∙ c.in_ok-circuit.ensures.ok c.part.result.now there)
    ∙ ap (for_circuit c.in_ok-circuit.circuit) c.in_err-dest.ensures.err)

pub returns-clause-ok : goal.returns-clause-ok
returns-clause-ok c =
    let topology = c.args.self.now.topology in
    let there = ap (λ v. slice_get v.topology.circuits c.in_ok-circuit.circuit) (sym c.self.view_is) ∙ c.part.ensures in
    to_circuit topology c.args.relay V4 c.args.datagram.now (addressed_by4 c.in_ok-reply.reply c.in_ok-suboptions.suboptions) c.in_ok-circuit.circuit c.part.result.now
    (frame4_there c.args.datagram.now c.in_ok-reply.reply c.in_ok-suboptions.suboptions c.in_ok-reply.ensures.value c.in_ok-suboptions.ensures)
    (ap (own_circuit topology c.args.relay) (sym c.get.ensures) ∙ c.in_ok-circuit.ensures.ok c.part.result.now there)
    ∙ ap (for_circuit c.in_ok-circuit.circuit) c.in_ok-dest.ensures.ok
