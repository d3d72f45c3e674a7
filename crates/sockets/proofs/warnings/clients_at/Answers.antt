use Rattle.std.proofs.Common.{◌∙◌, ap, sym, arith}
use Rattle.types.specs.declared.dest.Proto.TheVariants.{V4, V6}
use Rattle.sockets.specs.Sockets.{client_port}
use Rattle.sockets.proofs.WarningLemmas.{apart, none_yet}
use Rattle.sockets.proofs.warnings.clients_at.Goals as goal

pub circuits-init : goal.circuits-init
circuits-init c = record { none = λ k less. absurd (omega (arith, less)) }

pub circuits-preserved : goal.circuits-preserved
circuits-preserved c = record {
  none = none_yet c.args.port c.args.circuits c.circuits.index c.args.at c.circuits.invariant.none
      (λ four. apart c.args.at c.client.result c.eq.result c.eq.ensures c.if-eq.false (four ∙ sym (c.client.ensures ∙ ap (λ i. client_port c.args.port i V4) c.at-circuit.ensures)))
      (λ six. apart c.args.at c.client-else-eq.result c.eq-else-eq.result c.eq-else-eq.ensures c.if-eq-2.false (six ∙ sym (c.client-else-eq.ensures ∙ ap (λ i. client_port c.args.port i V6) c.at-circuit.ensures)));
}

pub returns-clause-none : goal.returns-clause-none
returns-clause-none c = λ k clients. c.circuits.invariant.none k (omega (arith, clients.0, c.circuits-test.false)) clients
