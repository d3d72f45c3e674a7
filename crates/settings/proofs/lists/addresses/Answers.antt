use Rattle.std.proofs.Common.{arith, subst, sym, Some, ◌+◌, ◌<◌, length}
use Rattle.std.proofs.lemmas.Grind.{common_steps}
use Rattle.toml.specs.View.{view}
use Rattle.settings.specs.declared.limits.TheConstants.{MAX_DNS}
use Rattle.settings.specs.Field.{text_of}
use Rattle.settings.proofs.EntryLemmas.{HasRead, Spelled, read_none, read_more, read_fails, read_past, read_all}
use Rattle.settings.proofs.lists.addresses.Goals as goal

pub loop-entry-init : goal.loop-entry-init
loop-entry-init c = subst (HasRead c.args.texts.now 0) (sym c.new-found.ensures) (read_none c.args.texts.now)

pub returns-in_default-clause-none : goal.returns-in_default-clause-none
returns-in_default-clause-none c = λ all few are.
    let at_entry = c.loop-entry.entry-index in
    read_fails _ at_entry c.entry-item.result _ c.loop-entry-test.true
    (λ a. subst (λ v. Spelled (text_of (Some (view v))) a → ⊥) c.entry-item.is (c.in_default.ensures.none a))
    c.loop-entry.invariant all are

pub returns-then-is_full-clause-none : goal.returns-then-is_full-clause-none
returns-then-is_full-clause-none c = λ all few are.
    let past = read_past _ c.loop-entry.entry-index c.entry-item.result _ c.loop-entry-test.true c.loop-entry.invariant all are in
    grind (arith, common_steps)

pub loop-entry-preserved : goal.loop-entry-preserved
loop-entry-preserved c =
    let texts = c.args.texts.now in
    let at_entry = c.loop-entry.entry-index in
    let room : length c.loop-entry.found.items < MAX_DNS = grind (arith, common_steps) in
    let here = subst (λ v. Spelled (text_of (Some (view v))) c.in-Some.address) c.entry-item.is c.in-Some.ensures.some in
    subst (HasRead texts (at_entry + 1)) (sym c.push.ensures.items)
    (read_more texts at_entry c.entry-item.result c.loop-entry.found.items c.in-Some.address c.loop-entry-test.true room here c.loop-entry.invariant)

pub returns-clause-some : goal.returns-clause-some
returns-clause-some c = read_all _ c.loop-entry.entry-index _ c.loop-entry-test.false c.loop-entry.invariant
