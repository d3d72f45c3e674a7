use Rattle.std.proofs.Common.{◌∙◌, ap₂}
use Rattle.std.proofs.lemmas.Result.{IfOk-weaker}
use Rattle.clap.specs.Words.{with_rule}
use Rattle.accessd.proofs.words.command.Goals as goal

pub returns : goal.returns
returns c =
    let report = c.in_ok-with_report.ensures.shape c.report_arg-report.ensures.local ∙ ap₂ with_rule c.in_ok-serving.ensures c.report_arg-report.ensures.rule in
    IfOk-weaker c.arg-2.result _ _
    (λ made h. h.shape c.leases_arg-leases.ensures.local ∙ ap₂ with_rule report c.leases_arg-leases.ensures.rule)
    c.arg-2.ensures
