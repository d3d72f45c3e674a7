use Rattle.std.proofs.Common.{◌∙◌, ap₂}
use Rattle.std.proofs.lemmas.Result.{IfOk-weaker}
use Rattle.clap.specs.Words.{with_rule}
use Rattle.accessd.proofs.words.base_command.Goals as goal

pub returns : goal.returns
returns c =
    let config = c.in_ok-with_config.ensures.shape c.config_arg-config.ensures.local ∙ ap₂ with_rule c.named.ensures c.config_arg-config.ensures.rule in
    let disk = c.in_ok-with_disk.ensures.shape c.disk_arg-disk.ensures.local ∙ ap₂ with_rule config c.disk_arg-disk.ensures.rule in
    let turns = c.in_ok-with_turns.ensures.shape c.turns_arg-turns.ensures.local ∙ ap₂ with_rule disk c.turns_arg-turns.ensures.rule in
    IfOk-weaker c.arg-4.result _ _
    (λ made h. h.shape c.service_arg-service.ensures.local ∙ ap₂ with_rule turns c.service_arg-service.ensures.rule)
    c.arg-4.ensures
