use Rattle.std.proofs.Common.{ap, below_more, subst, sym, ◌∙◌}
use Rattle.std.specs.Prelude.{Some}
use Rattle.std.proofs.lemmas.List.{get_or_read}
use Rattle.std.proofs.lemmas.Option.{slice_get-get_or}
use Rattle.config.specs.Rules.{IsOnSubnet}
use Rattle.settings.specs.declared.settings.CircuitConfig.{CircuitConfig}
use Rattle.config.proofs.RefLemmas.{named_at}
use Rattle.config.proofs.rules.circuit_off_subnet.Goals as goal

pub loop-index-preserved : goal.loop-index-preserved
loop-index-preserved c =
    let circuits = c.args.circuits.now in
    let here = λ (d : CircuitConfig). subst IsOnSubnet (get_or_read circuits c.loop-index.index c.index-circuits-index.result c.loop-index-test.true c.index-circuits-index.is d) c.in_default.ensures.none in
    below_more _ _ c.loop-index.invariant here

pub returns-in-Some-clause-some : goal.returns-in-Some-clause-some
returns-in-Some-clause-some c = λ s same.
    let circuits = c.args.circuits.now in
    let index = c.loop-index.index in
    let circuit = c.index-circuits-index.result in
    let there = slice_get-get_or circuits index circuit c.loop-index-test.true ∙ ap Some (sym c.index-circuits-index.is) in
    c.in-Some.ensures.some s c.circuit_ref.result
    (named_at s circuits index c.circuit_ref.result circuit same there (c.circuit_ref.ensures.number, c.circuit_ref.ensures.id))
