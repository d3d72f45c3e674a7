use Rattle.std.proofs.Common.{◌≡◌, ◌≤◌, Bool, length, sym, subst, ◌∙◌, arith}
use Rattle.std.specs.Prelude.{Some, slice_get}
use Rattle.types.specs.Addr.{same_source}
use Rattle.settings.specs.declared.settings.RelayConfig.{RelayConfig}
use Rattle.lab_text.proofs.RelayLemmas.{any_of_map, none_of_all, none_one_more, one_here}
use Rattle.lab_text.proofs.circuits.is_relay.Goals as goal

pub returns-then-eq : goal.returns-then-eq
returns-then-eq c =
    let from : RelayConfig → Bool = λ relay. same_source c.args.source relay.source in
    let there = subst (λ n. slice_get c.args.config.now.relays n ≡ Some c.relay.result.now) c.at-relay.ensures c.relay.ensures.value in
    sym (any_of_map (same_source c.args.source) (λ relay. relay.source) c.args.config.now.relays
    ∙ one_here from c.args.config.now.relays c.relays.index c.relay.result.now there (sym c.eq.ensures ∙ c.if-eq.true) c.relays.invariant)

pub relays-preserved : goal.relays-preserved
relays-preserved c =
    let from : RelayConfig → Bool = λ relay. same_source c.args.source relay.source in
    let there = subst (λ n. slice_get c.args.config.now.relays n ≡ Some c.relay.result.now) c.at-relay.ensures c.relay.ensures.value in
    none_one_more from c.args.config.now.relays c.relays.index c.relay.result.now there (sym c.eq.ensures ∙ c.if-eq.false) c.relays.invariant

pub returns : goal.returns
returns c =
    let from : RelayConfig → Bool = λ relay. same_source c.args.source relay.source in
    let past : length c.args.config.now.relays ≤ c.relays.index = omega (arith, c.relay_count-index-end.ensures.value, c.relays-test.false) in
    sym (any_of_map (same_source c.args.source) (λ relay. relay.source) c.args.config.now.relays
    ∙ none_of_all from c.args.config.now.relays c.relays.index past c.relays.invariant)
