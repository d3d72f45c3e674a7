use Rattle.std.proofs.Common.{refl}
use Rattle.config.proofs.RuleLemmas.{broken_by_circuits}
use Rattle.settings.specs.Settings.{Settings}
use Rattle.config.proofs.rules.rules.Goals as goal

pub returns-in-Err-clause-err : goal.returns-in-Err-clause-err
returns-in-Err-clause-err c =
    let s : Settings = record { server = c.args.server.now; relays = c.args.relays.now; circuits = c.args.circuits.now } in
    broken_by_circuits s c.in-Err.fault c.in_default.ensures.none (c.in-Err.ensures.err s refl)

pub returns-in-Some-circuit_off_subnet-clause-err : goal.returns-in-Some-circuit_off_subnet-clause-err
returns-in-Some-circuit_off_subnet-clause-err c =
    let s : Settings = record { server = c.args.server.now; relays = c.args.relays.now; circuits = c.args.circuits.now } in
    (c.in_default.ensures.none, c.in_default-circuit_rules.ensures.ok s refl, c.in-Some-circuit_off_subnet.ensures.some s refl)

pub returns-clause-ok : goal.returns-clause-ok
returns-clause-ok c =
    let s : Settings = record { server = c.args.server.now; relays = c.args.relays.now; circuits = c.args.circuits.now } in
    let apart = c.in_default-circuit_rules.ensures.ok s refl in
    record {
      names = c.in_default.ensures.none;
      regions = apart.regions;
      pools4 = apart.pools4;
      pools6 = apart.pools6;
      gateways = apart.gateways;
      subnets = c.in_default-circuit_off_subnet.ensures.none;
    }
