use Rattle.std.proofs.Common.{ap, ◌∙◌}
use Rattle.std.proofs.lemmas.Bool.{false≢true}
use Rattle.lab_text.specs.Fields.{circuit_named}
use Rattle.lab_text.proofs.CircuitLemmas.{named_result, no_id}
use Rattle.lab_text.proofs.circuits.circuit_named.Goals as goal

pub returns-in_default-clause-value : goal.returns-in_default-clause-value
returns-in_default-clause-value c = no_id c.args.config.now c.args.id.now c.circuit_count.ensures.sound (λ h. false≢true (c.in_default.ensures.within.1 h))

pub returns-clause-value : goal.returns-clause-value
returns-clause-value c =
    named_result c.args.config.now c.in-Some.id c.circuit.result c.circuit_count.ensures.sound c.circuit.ensures.found c.circuit.ensures.none
    ∙ ap (circuit_named c.args.config.now) c.in-Some.ensures.value
