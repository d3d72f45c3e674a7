use Rattle.events.specs.declared.event.Event.TheVariants as event
use Rattle.lab_engine.proofs.BatchLemmas.{batch_applied, batch_not_written}
use Rattle.lab_engine.proofs.LineResultLemmas.{status_done, status_failed}
use Rattle.lab_engine.proofs.apply_line.apply_batch.Goals as goal

pub returns-in-Ok-clause-follows : goal.returns-in-Ok-clause-follows
returns-in-Ok-clause-follows g c = λ plans quota number machines within represents.
    batch_applied plans quota c.args.now c.args.sync c.args.parts _ _ _ machines within represents number c.step-outcome.result _ _ c.step-outcome.ensures.steps c.in-Ok.ensures.ok

pub returns-in-Err-clause-follows : goal.returns-in-Err-clause-follows
returns-in-Err-clause-follows g c = λ plans quota number machines within represents.
    batch_not_written plans quota c.args.now c.args.sync c.args.parts _ _ _ machines within represents number c.step-outcome.result _ _ c.step-outcome.ensures.steps c.in-Err.ensures.err

pub returns-in-Ok-clause-status : goal.returns-in-Ok-clause-status
returns-in-Ok-clause-status g c = status_done (event.Batch c.args.now c.args.sync c.args.parts) _ _ _ _ c.step-outcome.ensures.topology c.in-Ok.ensures.quiet

pub returns-in-Err-clause-status : goal.returns-in-Err-clause-status
returns-in-Err-clause-status g c = status_failed (event.Batch c.args.now c.args.sync c.args.parts) _ _ _ _ c.step-outcome.ensures.topology c.in-Err.ensures.cause
