use Rattle.std.proofs.Common.{ap, ◌∙◌}
use Rattle.std.specs.Str.{bytes_eq}
use Rattle.indexmap.specs.IndexSet.{insert_key}
use Rattle.config.proofs.IndexLemmas.{one_id_more}
use Rattle.config.proofs.circuit_index.CircuitIndex.of.Goals as goal

pub circuits-preserved : goal.circuits-preserved
circuits-preserved c =
    c.in_ok-insert.ensures.keys ∙ ap (insert_key bytes_eq c.circuits.ids.keys) c.copy.ensures
    ∙ one_id_more c.args.circuits.now c.circuits.circuit-index c.circuit-item.result c.circuits.ids.keys c.requires c.circuits-test.true c.circuit-item.is c.circuits.invariant
