use Rattle.std.proofs.Common.{◌≡◌, Bool, sym, ap, subst, ◌∙◌}
use Rattle.std.specs.Prelude.{Some, slice_get}
use Rattle.std.specs.Str.{bytes_eq}
use Rattle.settings.specs.declared.settings.RelayConfig.{RelayConfig}
use Rattle.lab_text.specs.Fields.{relay_named}
use Rattle.lab_text.proofs.RelayLemmas.{lacks_none, lacks_one_more, found_here}
use Rattle.lab_text.proofs.circuits.relay_named.Goals as goal

pub relays-init : goal.relays-init
relays-init c = lacks_none (λ relay. bytes_eq relay.name.items c.args.name.now) c.args.config.now.relays

pub returns-then-eq-clause-value : goal.returns-then-eq-clause-value
unfolding relay_named
returns-then-eq-clause-value c =
    let has : RelayConfig → Bool = λ relay. bytes_eq relay.name.items c.args.name.now in
    let there = subst (λ n. slice_get c.args.config.now.relays n ≡ Some c.relay.result.now) c.at-relay.ensures c.relay.ensures.value in
    ap Some c.at-relay.ensures
    ∙ sym (found_here has c.args.config.now.relays c.relays.index c.relay.result.now there (ap (λ name. bytes_eq name c.args.name.now) (sym c.as_slice.ensures.value) ∙ sym c.eq.ensures ∙ c.if-eq.true) c.relays.invariant)

pub relays-preserved : goal.relays-preserved
relays-preserved c =
    let has : RelayConfig → Bool = λ relay. bytes_eq relay.name.items c.args.name.now in
    let there = subst (λ n. slice_get c.args.config.now.relays n ≡ Some c.relay.result.now) c.at-relay.ensures c.relay.ensures.value in
    lacks_one_more has c.args.config.now.relays c.relays.index c.relay.result.now there (ap (λ name. bytes_eq name c.args.name.now) (sym c.as_slice.ensures.value) ∙ sym c.eq.ensures ∙ c.if-eq.false) c.relays.invariant
