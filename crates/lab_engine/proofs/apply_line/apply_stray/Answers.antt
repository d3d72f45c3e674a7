use Rattle.lab_engine.proofs.LineResultLemmas.{status_done, status_failed}
use Rattle.lab_engine.proofs.apply_line.apply_stray.Goals as goal

pub returns-in-Ok-clause-status : goal.returns-in-Ok-clause-status
returns-in-Ok-clause-status g c = status_done c.args.event.now _ _ _ _ c.step-outcome.ensures.topology c.in-Ok.ensures.quiet

pub returns-in-Err-clause-status : goal.returns-in-Err-clause-status
returns-in-Err-clause-status g c = status_failed c.args.event.now _ _ _ _ c.step-outcome.ensures.topology c.in-Err.ensures.cause
