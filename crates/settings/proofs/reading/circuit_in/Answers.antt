use Rattle.std.proofs.Common.{arith}
use Rattle.toml.specs.View.{view, table_view}
use Rattle.settings.specs.Keys.{HasCircuitKeys}
use Rattle.settings.specs.Tables.{circuit_keys}
use Rattle.settings.proofs.ReadLemmas.{behind_some, of_table}
use Rattle.settings.proofs.reading.circuit_in.Goals as goal

pub circuit_of-requires-clause-relay : goal.circuit_of-requires-clause-relay
circuit_of-requires-clause-relay c =
    let names = c.requires.keys.0 in
    let keys = table_view c.in-Some.circuit.now in
    let has = of_table (HasCircuitKeys names) circuit_keys (view c.args.entry.now) keys c.in-Some.ensures c.requires.keys.2 in
    let behind = behind_some names c.args.relays.now (circuit_keys keys).relay c.requires.keys.1 has.relay in
    (behind.0, omega (arith, behind.1, c.requires.few), behind.2)
