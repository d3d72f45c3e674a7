use Rattle.std.proofs.Common.{◌∙◌, ap₂}
use Rattle.std.proofs.lemmas.Result.{IfOk-weaker}
use Rattle.clap.specs.Words.{with_rule}
use Rattle.accesslab.proofs.words.command.Goals as goal

pub returns : goal.returns
returns c =
    IfOk-weaker c.arg-2.result _ _
    (λ made h. h.shape c.quota_arg-quota.ensures.local
    ∙ ap₂ with_rule (c.in_ok-first.ensures.shape c.configs_arg-configs.ensures.local ∙ ap₂ with_rule c.named.ensures c.configs_arg-configs.ensures.rule) c.quota_arg-quota.ensures.rule)
    c.arg-2.ensures
