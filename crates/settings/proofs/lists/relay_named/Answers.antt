use Rattle.std.proofs.Common.{arith, sym, subst, ◌∙◌, below_more, ◌≡◌}
use Rattle.std.proofs.lemmas.Bool.{false≢true}
use Rattle.std.proofs.lemmas.Option.{IfSome_then}
use Rattle.std.proofs.lemmas.Slice.Eq.{bytes_eq-Decides}
use Rattle.settings.specs.Values.{IsNameAt}
use Rattle.settings.proofs.NameLemmas.{is_name, not_name, name_within}
use Rattle.settings.proofs.lists.relay_named.Goals as goal

pub returns-then-eq-clause-some : goal.returns-then-eq-clause-some
returns-then-eq-clause-some c =
    let relays = c.args.relays.now in
    let same = (bytes_eq-Decides c.as_slice.result.now c.as_bytes.result.now).0 (sym c.eq.ensures ∙ c.if-eq.true) in
    let name = sym c.as_slice.ensures.value ∙ same ∙ c.as_bytes.ensures.value in
    let found = is_name (λ relay. relay.name.items) relays c.loop-i.i c.index-relays-i.result c.args.name.now c.loop-i-test.true c.index-relays-i.is name in
    IfSome_then c.new.result c.new.ensures.value (λ n is. subst (λ k. IsNameAt relays k c.args.name.now) (sym is) found)

pub loop-i-preserved : goal.loop-i-preserved
loop-i-preserved c =
    let differs = λ (e : c.index-relays-i.result.name.items ≡ c.args.name.now).
    let same = (bytes_eq-Decides c.as_slice.result.now c.as_bytes.result.now).1 (c.as_slice.ensures.value ∙ e ∙ sym c.as_bytes.ensures.value) in
    false≢true (sym c.if-eq.false ∙ c.eq.ensures ∙ same) in
    below_more _ _ c.loop-i.invariant (not_name (λ relay. relay.name.items) c.args.relays.now c.loop-i.i c.index-relays-i.result c.args.name.now c.loop-i-test.true c.index-relays-i.is differs)

pub returns-clause-none : goal.returns-clause-none
returns-clause-none c = λ n small h.
    let inside = name_within (λ relay. relay.name.items) c.args.relays.now n c.args.name.now h in
    c.loop-i.invariant n (omega arith) h
