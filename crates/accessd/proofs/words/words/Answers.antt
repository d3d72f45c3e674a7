use Rattle.std.proofs.Common.{◌≡◌, ◌∙◌, sym, ap, subst, Bool, true, false, refl, map}
use Rattle.std.specs.Prelude.{string_bytes}
use Rattle.clap.specs.Words.{HasKind, found_of, is_simple, is_simple_and_free, fault_of, matches_of}
use Rattle.clap.proofs.OnLiterals.{clap_on_literals}
use Rattle.accessd.proofs.WordsLemmas.{beside_serves_nothing, same_given}
use Rattle.accessd.specs.Serving.{IsBeside, asks_for_service}
use Rattle.accessd.specs.Words.{access_app, app_for, given_by, HasValues}
use Rattle.accessd.proofs.words.words.Goals as goal

simple : (is_service : Bool) → is_simple (access_app is_service) ≡ true
unfolding clap_on_literals
simple true = refl
simple false = refl

free : (is_service : Bool) → is_simple_and_free (access_app is_service) ≡ true
unfolding clap_on_literals
free true = refl
free false = refl

pub returns-in-Err-clause-refused : goal.returns-in-Err-clause-refused
returns-in-Err-clause-refused c =
    let words = map string_bytes c.args.words.now in
    let app = c.in-Ok.ensures ∙ ap access_app c.asks_for_service-is_service.ensures in
    subst (λ a. HasKind (fault_of a words) c.in-Err.error) app
    (c.in-Err.ensures.kinds (ap is_simple_and_free app ∙ free (asks_for_service words)))

pub returns-in-Some-clause-refused : goal.returns-in-Some-clause-refused
returns-in-Some-clause-refused c =
    let words = map string_bytes c.args.words.now in
    let app = c.in-Ok.ensures ∙ ap access_app c.asks_for_service-is_service.ensures in
    let parsed = c.in-Ok-try_get_matches_from.ensures in
    let rows = (parsed.matches (ap is_simple app ∙ simple (asks_for_service words))).0 ∙ ap (λ a. matches_of a words) app in
    let given = same_given (found_of c.in-Ok-try_get_matches_from.matches) ∙ ap given_by rows in
    let beside = subst (λ read. IsBeside read c.in-Some.argument) given c.in-Some.ensures.some in
    (beside, λ (values, spells). beside_serves_nothing (given_by (matches_of (app_for words) words)) c.in-Some.argument values.serving beside spells.values.serving_is)

pub returns-in_default-values-clause-refused : goal.returns-in_default-values-clause-refused
returns-in_default-values-clause-refused c = λ (values, spells).
    let words = map string_bytes c.args.words.now in
    let app = c.in-Ok.ensures ∙ ap access_app c.asks_for_service-is_service.ensures in
    let parsed = c.in-Ok-try_get_matches_from.ensures in
    let rows = (parsed.matches (ap is_simple app ∙ simple (asks_for_service words))).0 ∙ ap (λ a. matches_of a words) app in
    c.in_default-values.ensures.none refl values (subst (λ given. HasValues given values) (sym rows) spells.values)

pub returns-clause-values : goal.returns-clause-values
returns-clause-values c =
    let words = map string_bytes c.args.words.now in
    let app = c.in-Ok.ensures ∙ ap access_app c.asks_for_service-is_service.ensures in
    let parsed = c.in-Ok-try_get_matches_from.ensures in
    let rows = (parsed.matches (ap is_simple app ∙ simple (asks_for_service words))).0 ∙ ap (λ a. matches_of a words) app in
    record {
      right = ap (λ a. fault_of a words) (sym app) ∙ parsed.kinds (ap is_simple_and_free app ∙ free (asks_for_service words));
      values = subst (λ given. HasValues given c.in-Some-values.values) rows c.in-Some-values.ensures.some;
    }
