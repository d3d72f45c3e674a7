use Rattle.std.proofs.Common.{ap, ◌∙◌, rules}
use Rattle.std.specs.Prelude.{option_map}
use Rattle.config.specs.Topology.{relay_circuit}
use Rattle.config.proofs.TopologyLemmas.{no_id}
use Rattle.config.proofs.circuits.Circuits.relay_circuit.Goals as goal

pub returns-in_default-clause-none : goal.returns-in_default-clause-none
returns-in_default-clause-none c =
    ap (λ id. relay_circuit c.args.self.now c.args.relay (option_map (λ bytes. bytes.now) id)) c.in_default.is ∙ no_id c.args.self.now c.args.relay

pub returns-then-serves-clause-found : goal.returns-then-serves-clause-found
returns-then-serves-clause-found c = search rules

pub returns-in_default-find-clause-none : goal.returns-in_default-find-clause-none
returns-in_default-find-clause-none c = search rules

pub returns-else-eq-clause-none : goal.returns-else-eq-clause-none
returns-else-eq-clause-none c = search rules
