use Rattle.std.proofs.Common.{◌≡◌, ◌∙◌, sym, ap, subst, true, refl, map}
use Rattle.std.specs.Prelude.{string_bytes}
use Rattle.clap.specs.Words.{HasKind, is_simple, is_simple_and_free, fault_of, matches_of}
use Rattle.clap.proofs.OnLiterals.{clap_on_literals}
use Rattle.accesslab.specs.Words.{lab_app, HasValues}
use Rattle.accesslab.proofs.words.words.Goals as goal

simple : is_simple lab_app ≡ true
unfolding clap_on_literals
simple = refl

free : is_simple_and_free lab_app ≡ true
unfolding clap_on_literals
free = refl

pub returns-in-Ok-to_vec-clause-values : goal.returns-in-Ok-to_vec-clause-values
returns-in-Ok-to_vec-clause-values c =
    let words = map string_bytes c.args.words.now in
    let parsed = c.in-Ok-try_get_matches_from.ensures in
    let rows = (parsed.matches (ap is_simple c.in-Ok.ensures ∙ simple)).0 ∙ ap (λ a. matches_of a words) c.in-Ok.ensures in
    let items = c.in-Ok-to_vec.ensures.items_if_clones_equal (λ x y same. same) in
    let texts = ap (map (λ path. path.now)) (sym items) in
    record {
      right = ap (λ a. fault_of a words) (sym c.in-Ok.ensures) ∙ parsed.kinds (ap is_simple_and_free c.in-Ok.ensures ∙ free);
      values = subst (λ configs. HasValues (matches_of lab_app words) configs c.in-Some.quota) texts (subst (λ given. HasValues given (map (λ path. path.now) c.in-Some.configs.now) c.in-Some.quota) rows c.in-Some.ensures.some);
    }

pub returns-in-Err-clause-refused : goal.returns-in-Err-clause-refused
returns-in-Err-clause-refused c =
    let words = map string_bytes c.args.words.now in
    subst (λ a. HasKind (fault_of a words) c.in-Err.error) c.in-Ok.ensures (c.in-Err.ensures.kinds (ap is_simple_and_free c.in-Ok.ensures ∙ free))

pub returns-in_default-values-clause-refused : goal.returns-in_default-values-clause-refused
returns-in_default-values-clause-refused c = λ (configs, quota, spells).
    let words = map string_bytes c.args.words.now in
    let parsed = c.in-Ok-try_get_matches_from.ensures in
    let rows = (parsed.matches (ap is_simple c.in-Ok.ensures ∙ simple)).0 ∙ ap (λ a. matches_of a words) c.in-Ok.ensures in
    c.in_default-values.ensures.none refl configs quota (subst (λ given. HasValues given configs quota) (sym rows) spells.values)
