use Rattle.std.proofs.Common.{ap}
use Rattle.config.proofs.PartLemmas.{gateway_is_given, is_part, part_there}
use Rattle.config.proofs.circuit_part.CircuitPart.of.Goals as goal

pub invariant_of-result : goal.invariant_of-result
invariant_of-result c =
    is_part c.args.config.now c.args.circuit c.at-values.result.now c.copy.result c.relay-relay.result.now.source c.server-server.result.now c.copy_of.result.items
    c.at-values.ensures.value c.copy.ensures c.at-values.ensures.limits c.at-values.ensures.sound c.is_unspecified.ensures.size c.has_sixteen_bytes.ensures
    (ap (λ x. x.items) c.copy_of.ensures) c.server-server.ensures.limits

pub returns-clause-sound : goal.returns-clause-sound
returns-clause-sound c =
    is_part c.args.config.now c.args.circuit c.at-values.result.now c.copy.result c.relay-relay.result.now.source c.server-server.result.now c.copy_of.result.items
    c.at-values.ensures.value c.copy.ensures c.at-values.ensures.limits c.at-values.ensures.sound c.is_unspecified.ensures.size c.has_sixteen_bytes.ensures
    (ap (λ x. x.items) c.copy_of.ensures) c.server-server.ensures.limits

pub returns-clause-value : goal.returns-clause-value
returns-clause-value c =
    part_there c.args.config.now c.args.circuit c.at-values.result.now c.copy.result c.relay-relay.result.now c.server-server.result.now c.copy_of.result.items
    c.at-values.ensures.value c.relay-relay.ensures.value c.copy.ensures c.server-server.ensures.value (ap (λ x. x.items) c.copy_of.ensures)

pub prove-unreachable-requires : goal.prove-unreachable-requires
prove-unreachable-requires c =
    let given = gateway_is_given c.args.config.now c.args.circuit c.at-values.result.now c.at-values.ensures.value c.at-values.ensures.sound in
    absurd (cc (given, c.is_unspecified.ensures.value, c.if-prove.true))
