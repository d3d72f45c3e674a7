use Rattle.std.proofs.Common.{◌∙◌, ap, subst, sym}
use Rattle.std.specs.Prelude.{slice_get}
use Rattle.settings.specs.Settings.{Settings}
use Rattle.lab_engine.proofs.LineResultLemmas.{SetupAt, found_at, event_applied, event_not_written, status_done, status_failed}
use Rattle.lab_engine.proofs.apply_line.apply_event.Goals as goal

pub returns-in-Ok-clause-follows : goal.returns-in-Ok-clause-follows
returns-in-Ok-clause-follows g c = λ quota number machines seen names represents.
    let plans = c.args.plans.now in
    let circuit = c.args.circuit in
    let at = subst (SetupAt plans quota circuit) (sym c.as_bytes.ensures.value) (found_at plans quota circuit c.at-named.result.now (ap (λ (u : Settings). slice_get u.circuits circuit) (sym c.union.ensures) ∙ c.at-named.ensures.value)) in
    event_applied plans quota number circuit c.as_bytes.result.now seen c.args.event.now _ _ c.step-outcome.result _ machines _ _ at names c.step-outcome.ensures.steps represents c.in-Ok.ensures.ok

pub returns-in-Err-clause-follows : goal.returns-in-Err-clause-follows
returns-in-Err-clause-follows g c = λ quota number machines seen names represents.
    let plans = c.args.plans.now in
    let circuit = c.args.circuit in
    let at = subst (SetupAt plans quota circuit) (sym c.as_bytes.ensures.value) (found_at plans quota circuit c.at-named.result.now (ap (λ (u : Settings). slice_get u.circuits circuit) (sym c.union.ensures) ∙ c.at-named.ensures.value)) in
    event_not_written plans quota number circuit c.as_bytes.result.now seen c.args.event.now _ _ c.step-outcome.result _ machines _ _ at names c.step-outcome.ensures.steps represents c.in-Err.ensures.err

pub returns-in-Ok-clause-status : goal.returns-in-Ok-clause-status
returns-in-Ok-clause-status g c = status_done c.args.event.now _ _ _ _ c.step-outcome.ensures.topology c.in-Ok.ensures.quiet

pub returns-in-Err-clause-status : goal.returns-in-Err-clause-status
returns-in-Err-clause-status g c = status_failed c.args.event.now _ _ _ _ c.step-outcome.ensures.topology c.in-Err.ensures.cause
