use Rattle.std.proofs.Common.{◌∙◌, ap₂}
use Rattle.std.proofs.lemmas.Result.{IfOk-weaker}
use Rattle.clap.specs.Words.{with_rule}
use Rattle.leases.proofs.words.command.Goals as goal

pub returns : goal.returns
returns c =
    let config = c.in_ok-with_config.ensures.shape c.config_arg-config.ensures.local ∙ ap₂ with_rule c.named.ensures c.config_arg-config.ensures.rule in
    let disk = c.in_ok-with_disk.ensures.shape c.disk_arg-disk.ensures.local ∙ ap₂ with_rule config c.disk_arg-disk.ensures.rule in
    let moment = c.in_ok-with_at.ensures.shape c.at_arg-at.ensures.local ∙ ap₂ with_rule disk c.at_arg-at.ensures.rule in
    let pools = c.in_ok-with_pools.ensures.shape c.pools_arg-pools.ensures.local ∙ ap₂ with_rule moment c.pools_arg-pools.ensures.rule in
    IfOk-weaker c.arg-5.result _ _
    (λ made h. h.shape c.json_arg-json.ensures.local ∙ ap₂ with_rule pools c.json_arg-json.ensures.rule)
    c.arg-5.ensures
