use Rattle.lab_engine.proofs.LineResultLemmas.{done_applied, done_not_written, status_done, status_failed}
use Rattle.lab_engine.proofs.apply_line.apply_done.Goals as goal

pub returns-in-Ok-clause-follows : goal.returns-in-Ok-clause-follows
returns-in-Ok-clause-follows g c = λ plans quota number line machines is represents.
    done_applied plans quota number line c.args.event.now _ _ c.step.result _ machines _ _ is c.step.ensures.steps represents c.in-Ok.ensures.ok

pub returns-in-Err-clause-follows : goal.returns-in-Err-clause-follows
returns-in-Err-clause-follows g c = λ plans quota number line machines is represents.
    done_not_written plans quota number line c.args.event.now _ _ c.step.result _ machines _ _ is c.step.ensures.steps represents c.in-Err.ensures.err

pub returns-in-Ok-clause-status : goal.returns-in-Ok-clause-status
returns-in-Ok-clause-status g c = status_done c.args.event.now _ _ _ _ c.step.ensures.topology c.in-Ok.ensures.quiet

pub returns-in-Err-clause-status : goal.returns-in-Err-clause-status
returns-in-Err-clause-status g c = status_failed c.args.event.now _ _ _ _ c.step.ensures.topology c.in-Err.ensures.cause
