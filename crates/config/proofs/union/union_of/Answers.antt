use Rattle.std.proofs.Common.{arith}
use Rattle.settings.specs.Settings.{Settings}
use Rattle.config.proofs.UnionLemmas.{union_fault, union_is_sound}
use Rattle.config.proofs.union.union_of.Goals as goal

pub returns-in-Err-clause-broken : goal.returns-in-Err-clause-broken
returns-in-Err-clause-broken c =
    let values = c.in-Ok.values in
    let union : Settings = record { server = values.server; relays = values.relays.items; circuits = values.circuits.items } in
    union_fault c.args.configs.now union c.in-Err.fault c.in-Ok.ensures (omega arith) (c.in-Err.ensures.err union (cc))

pub of-requires : goal.of-requires
of-requires c =
    let values = c.in-Ok.values in
    let union : Settings = record { server = values.server; relays = values.relays.items; circuits = values.circuits.items } in
    union_is_sound c.args.configs.now union c.requires.some c.requires.sound c.in-Ok.ensures (omega arith)
    (c.in_default-circuit_rules.ensures.ok union (cc))
