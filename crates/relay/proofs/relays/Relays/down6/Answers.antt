use Rattle.std.proofs.Common.{sym, ap, ◌∙◌, Ok, Err}
use Rattle.std.specs.Prelude.{slice_get}
use Rattle.std.proofs.lemmas.Result.{err_from_is_err_and}
use Rattle.types.specs.declared.dest.Proto.TheVariants.{V6}
use Rattle.relay.specs.Relays.{for_circuit, own_circuit}
use Rattle.relay.proofs.RelaysLemmas.{no_frame, no_circuit, to_circuit, no_reply6, frame6_is}
use Rattle.relay.proofs.relays.Relays.down6.Goals as goal

pub returns-in_err-message-clause-err : goal.returns-in_err-message-clause-err
returns-in_err-message-clause-err c =
    let p = err_from_is_err_and c.from_residual.result c.from_residual.ensures.1 in
    rw (p.1, p.2)
    (no_frame c.args.self.now.topology c.args.relay V6 c.args.datagram.now c.in_err-message.field-0.0
    (no_reply6 c.args.datagram.now c.in_err-message.field-0.0 c.in_err-message.ensures.value))

pub returns-in_err-reply-clause-err : goal.returns-in_err-reply-clause-err
returns-in_err-reply-clause-err c =
    let p = err_from_is_err_and c.from_residual-in_err-reply.result c.from_residual-in_err-reply.ensures.1 in
    rw (p.1, p.2)
    (no_frame c.args.self.now.topology c.args.relay V6 c.args.datagram.now c.in_err-reply.field-0.0
    (frame6_is c.args.datagram.now c.in_ok-message.message (Err c.in_err-reply.field-0.0) c.in_ok-message.ensures.value c.in_err-reply.ensures.value))

pub returns-in_err-circuit-clause-err : goal.returns-in_err-circuit-clause-err
returns-in_err-circuit-clause-err c =
    let p = err_from_is_err_and c.from_residual-in_err-circuit.result c.from_residual-in_err-circuit.ensures.1 in
    rw (p.1, p.2)
    (no_circuit c.args.self.now.topology c.args.relay V6 c.args.datagram.now c.in_ok-reply.reply c.in_err-circuit.field-0.0
    (frame6_is c.args.datagram.now c.in_ok-message.message (Ok c.in_ok-reply.reply) c.in_ok-message.ensures.value c.in_ok-reply.ensures.value)
    (ap (λ r. own_circuit c.args.self.now.topology c.args.relay r.circuit_id) (sym c.reply.view_is) ∙ c.in_err-circuit.ensures.err))

pub returns-in_err-dest-clause-err : goal.returns-in_err-dest-clause-err
returns-in_err-dest-clause-err c =
    let p = err_from_is_err_and c.from_residual-in_err-dest.result c.from_residual-in_err-dest.ensures.1 in
    let there = ap (λ v. slice_get v.topology.circuits c.in_ok-circuit.circuit) (sym c.self.view_is) ∙ c.part.ensures in
    rw (p.1, p.2)
    (to_circuit c.args.self.now.topology c.args.relay V6 c.args.datagram.now c.in_ok-reply.reply c.in_ok-circuit.circuit c.part.result.now
    (frame6_is c.args.datagram.now c.in_ok-message.message (Ok c.in_ok-reply.reply) c.in_ok-message.ensures.value c.in_ok-reply.ensures.value)
    (ap (λ r. own_circuit c.args.self.now.topology c.args.relay r.circuit_id) (sym c.reply.view_is) ∙ c.in_ok-circuit.ensures.ok c.part.result.now there)
    ∙ ap (for_circuit c.in_ok-circuit.circuit) c.in_err-dest.ensures.err)

pub returns-clause-ok : goal.returns-clause-ok
returns-clause-ok c =
    let there = ap (λ v. slice_get v.topology.circuits c.in_ok-circuit.circuit) (sym c.self.view_is) ∙ c.part.ensures in
    to_circuit c.args.self.now.topology c.args.relay V6 c.args.datagram.now c.in_ok-reply.reply c.in_ok-circuit.circuit c.part.result.now
    (frame6_is c.args.datagram.now c.in_ok-message.message (Ok c.in_ok-reply.reply) c.in_ok-message.ensures.value c.in_ok-reply.ensures.value)
    (ap (λ r. own_circuit c.args.self.now.topology c.args.relay r.circuit_id) (sym c.reply.view_is) ∙ c.in_ok-circuit.ensures.ok c.part.result.now there)
    ∙ ap (for_circuit c.in_ok-circuit.circuit) c.in_ok-dest.ensures.ok
