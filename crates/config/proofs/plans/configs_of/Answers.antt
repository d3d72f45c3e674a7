use Rattle.std.proofs.Common.{[], ◌∷◌, ◌++◌, not, sym, ap, subst, ◌∙◌, if◌then◌else◌}
use Rattle.std.proofs.lemmas.List.Elements.{All-push}
use Rattle.std.specs.Prelude.{All}
use Rattle.config.specs.Rules.{IsSound}
use Rattle.config.proofs.PlanLemmas.{first_fault, one_text_more}
use Rattle.config.proofs.plans.configs_of.Goals as goal

pub returns-in-Err-clause-broken : goal.returns-in-Err-clause-broken
returns-in-Err-clause-broken c =
    first_fault c.args.texts.now c.loop-text.text-index _ c.loop-text.configs.items c.in-Err.fault c.loop-text-test.true c.loop-text.invariant.read c.in-Err.ensures.broken

pub loop-text-preserved : goal.loop-text-preserved
loop-text-preserved c =
    let pushed = c.is_err.ensures.negation ∙ ap not c.if-is_err.false in
    let before = c.loop-text.configs.items in
    let config = c.in-Ok-read.config in
    let items = c.push.ensures.items ∙ ap (λ b. if b then before ++ config ∷ [] else before) pushed in
    record {
      read = one_text_more c.args.texts.now c.loop-text.text-index _ before c.push.new.self.items config c.loop-text-test.true items c.loop-text.invariant.read c.in-Ok-read.ensures.valid;
      sound = subst (All IsSound) (sym items) (All-push IsSound before config c.loop-text.invariant.sound c.in-Ok-read.ensures.sound);
    }
