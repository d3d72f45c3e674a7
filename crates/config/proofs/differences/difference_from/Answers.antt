use Rattle.std.proofs.lemmas.Option.{IfSome_then}
use Rattle.config.proofs.DifferenceLemmas.{agrees_with_all, different_in, none_then}
use Rattle.config.proofs.differences.difference_from.Goals as goal

pub returns-clause-some : goal.returns-clause-some
returns-clause-some c = IfSome_then c.circuit_key.result c.circuit_key.ensures.some (λ key differs.
    different_in c.args.config.now c.args.circuit.now c.at.result.now c.in_ok-circuit.field-0 key c.in_ok-circuit.ensures.found c.at.ensures.value differs)

pub returns-clause-none : goal.returns-clause-none
returns-clause-none c = none_then c.circuit_key.result (λ same.
    agrees_with_all c.args.config.now c.args.circuit.now c.at.result.now c.in_ok-circuit.field-0 c.at.ensures.sound.rules.names.ids c.at.ensures.value same) c.circuit_key.ensures.none
