use Rattle.std.proofs.Common.{◌≡◌, ◌∙◌, sym, ap, subst, true, refl, map}
use Rattle.std.specs.Prelude.{string_bytes}
use Rattle.clap.specs.Words.{HasKind, is_simple, is_simple_and_free, fault_of, matches_of}
use Rattle.clap.proofs.OnLiterals.{clap_on_literals}
use Rattle.leases.specs.Words.{leases_app, HasValues}
use Rattle.leases.proofs.words.words.Goals as goal

simple : is_simple leases_app ≡ true
unfolding clap_on_literals
simple = refl

free : is_simple_and_free leases_app ≡ true
unfolding clap_on_literals
free = refl

pub returns-clause-values : goal.returns-clause-values
returns-clause-values c =
    let words = map string_bytes c.args.words.now in
    let parsed = c.in-Ok-try_get_matches_from.ensures in
    let rows = (parsed.matches (ap is_simple c.in-Ok.ensures ∙ simple)).0 ∙ ap (λ a. matches_of a words) c.in-Ok.ensures in
    record {
      right = ap (λ a. fault_of a words) (sym c.in-Ok.ensures) ∙ parsed.kinds (ap is_simple_and_free c.in-Ok.ensures ∙ free);
      values = subst (λ given. HasValues given c.in-Some.values.config.now c.in-Some.values.disk.now c.in-Some.values.at c.in-Some.values.what c.in-Some.values.form) rows c.in-Some.ensures.some;
    }

pub returns-in-Err-clause-refused : goal.returns-in-Err-clause-refused
returns-in-Err-clause-refused c =
    let words = map string_bytes c.args.words.now in
    subst (λ a. HasKind (fault_of a words) c.in-Err.error) c.in-Ok.ensures (c.in-Err.ensures.kinds (ap is_simple_and_free c.in-Ok.ensures ∙ free))

pub returns-in_default-values-clause-refused : goal.returns-in_default-values-clause-refused
returns-in_default-values-clause-refused c = λ (config, disk, moment, what, form, spells).
    let words = map string_bytes c.args.words.now in
    let parsed = c.in-Ok-try_get_matches_from.ensures in
    let rows = (parsed.matches (ap is_simple c.in-Ok.ensures ∙ simple)).0 ∙ ap (λ a. matches_of a words) c.in-Ok.ensures in
    c.in_default-values.ensures.none refl config disk moment what form (subst (λ given. HasValues given config disk moment what form) (sym rows) spells.values)
