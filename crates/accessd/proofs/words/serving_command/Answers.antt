use Rattle.std.proofs.Common.{◌∙◌, ap₂}
use Rattle.std.proofs.lemmas.Result.{IfOk-weaker}
use Rattle.clap.specs.Words.{with_rule}
use Rattle.accessd.proofs.words.serving_command.Goals as goal

pub returns : goal.returns
returns c =
    let format = c.in_ok-with_format.ensures.shape c.format_arg-format.ensures.local ∙ ap₂ with_rule c.in_ok-base.ensures c.format_arg-format.ensures.rule in
    let port = c.in_ok-with_port.ensures.shape c.port_arg-port.ensures.local ∙ ap₂ with_rule format c.port_arg-port.ensures.rule in
    let pause = c.in_ok-with_pause.ensures.shape c.pause_arg-pause.ensures.local ∙ ap₂ with_rule port c.pause_arg-pause.ensures.rule in
    IfOk-weaker c.arg-4.result _ _
    (λ made h. h.shape c.batch_arg-batch.ensures.local ∙ ap₂ with_rule pause c.batch_arg-batch.ensures.rule)
    c.arg-4.ensures
