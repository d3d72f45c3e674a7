use Rattle.std.proofs.Common.{rules}
use Rattle.config.proofs.RuleLemmas.{pools4_apart, pools6_apart, regions_differ}
use Rattle.config.proofs.rules.circuit_rules.Goals as goal

pub returns-in-Some-two_circuits-clause-err : goal.returns-in-Some-two_circuits-clause-err
returns-in-Some-two_circuits-clause-err c = λ s same.
    (regions_differ s _ same c.in_default.ensures.none, c.in-Some-two_circuits.ensures.some s same)

pub returns-in-Some-two_circuits-2-clause-err : goal.returns-in-Some-two_circuits-2-clause-err
returns-in-Some-two_circuits-2-clause-err c = λ s same.
    let regions = regions_differ s _ same c.in_default.ensures.none in
    let pools4 = pools4_apart s _ same c.in_default-two_circuits.ensures.none in
    (regions, pools4, c.in-Some-two_circuits-2.ensures.some s same)

pub returns-in-Some-gateway_in_pool-clause-err : goal.returns-in-Some-gateway_in_pool-clause-err
returns-in-Some-gateway_in_pool-clause-err c = λ s same.
    let regions = regions_differ s _ same c.in_default.ensures.none in
    let pools4 = pools4_apart s _ same c.in_default-two_circuits.ensures.none in
    let pools6 = pools6_apart s _ same c.in_default-two_circuits-2.ensures.none in
    (regions, pools4, pools6, c.in-Some-gateway_in_pool.ensures.some s same)

pub returns-clause-ok : goal.returns-clause-ok
returns-clause-ok c = λ s same. record {
  regions = regions_differ s _ same c.in_default.ensures.none;
  pools4 = pools4_apart s _ same c.in_default-two_circuits.ensures.none;
  pools6 = pools6_apart s _ same c.in_default-two_circuits-2.ensures.none;
  gateways = c.in_default-gateway_in_pool.ensures.none s same;
}

pub returns-in-Some-clause-err : goal.returns-in-Some-clause-err
returns-in-Some-clause-err c = search rules
