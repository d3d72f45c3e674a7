use Rattle.std.proofs.Common.{List, rules, subst}
use Rattle.settings.specs.declared.settings.CircuitConfig.{CircuitConfig}
use Rattle.settings.specs.declared.settings.RelayConfig.{RelayConfig}
use Rattle.config.specs.Valid.{IsLeastRule}
use Rattle.config.proofs.FaultLemmas.{broken_is_fault, unread_is_fault}
use Rattle.config.proofs.config.Config.read.Goals as goal

pub returns-in-Err-values_in-clause-broken : goal.returns-in-Err-values_in-clause-broken
returns-in-Err-values_in-clause-broken c =
    unread_is_fault c.args.text.now _ _ c.in-Err-values_in.fault c.in-Ok.ensures.ok c.in-Ok-tables_in.ensures.tables c.in-Ok-tables_in.ensures.all c.in-Err-values_in.ensures.unread

pub returns-in-Err-rules-clause-broken : goal.returns-in-Err-rules-clause-broken
returns-in-Err-rules-clause-broken c =
    let v = c.in-Ok-values_in.values in
    let fault = c.in-Err-rules.fault in
    let of_circuits = subst (λ (cs : List CircuitConfig). IsLeastRule (record { server = v.server; relays = c.deref.result.now; circuits = cs }) fault) c.deref-2.ensures.value c.in-Err-rules.ensures.err in
    let broken = subst (λ (rs : List RelayConfig). IsLeastRule (record { server = v.server; relays = rs; circuits = v.circuits.items }) fault) c.deref.ensures.value of_circuits in
    broken_is_fault c.args.text.now _ _ _ fault c.in-Ok.ensures.ok c.in-Ok-tables_in.ensures.tables c.in-Ok-tables_in.ensures.all c.in-Ok-values_in.ensures.read broken

pub of-requires : goal.of-requires
of-requires c = record {
  some_relay = search rules;
  relays = search rules;
  some_circuit = search rules;
  circuits = search rules;
  server = search rules;
  each_relay = search rules;
  limits = search rules;
  rules = search rules;
}
