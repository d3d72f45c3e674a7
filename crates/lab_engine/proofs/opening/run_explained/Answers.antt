use Rattle.std.proofs.Common.{◌+◌, inr, refl}
use Rattle.lab_engine.specs.Lab.{lab_output}
use Rattle.lab_engine.proofs.CauseLemmas.{cause_from, has_read, none_from}
use Rattle.lab_engine.proofs.PreparationLemmas.{opened_so_far}
use Rattle.lab_engine.proofs.RunLemmas.{ended_written}
use Rattle.lab_engine.proofs.StartLemmas.{known_at_first}
use Rattle.lab_engine.proofs.opening.run_explained.Goals as goal

pub returns-clause-written : goal.returns-clause-written
returns-clause-written g c = λ text is opened fine.
    ended_written (lab_output c.args.plans.now c.args.quota) text _ _ _ _ c.apply_lines-status.result
    (c.apply_lines-status.ensures.ends c.args.quota (lab_output c.args.plans.now c.args.quota) _ _
    (opened_so_far c.args.plans.now c.args.quota (c.in-Ok-prepare_all.next.earlier + 1) _ _ _ _ _ _ (c.in-Ok-prepare_all.ensures.prepared c.args.quota) c.in-Ok-opened.ensures.represents)
    (known_at_first c.args.plans.now c.in-Ok-opened.world c.in-Ok-opened.ensures.topology)) is fine

pub returns-clause-partial : goal.returns-clause-partial
returns-clause-partial g c = λ failed.
    let ends = c.apply_lines-status.ensures.ends c.args.quota (lab_output c.args.plans.now c.args.quota) _ _
    (opened_so_far c.args.plans.now c.args.quota (c.in-Ok-prepare_all.next.earlier + 1) _ _ _ _ _ _ (c.in-Ok-prepare_all.ensures.prepared c.args.quota) c.in-Ok-opened.ensures.represents)
    (known_at_first c.args.plans.now c.in-Ok-opened.world c.in-Ok-opened.ensures.topology) in
    record { read = ends.read; consumed = ends.consumed; partial = ends.partial failed }

pub returns-clause-cause : goal.returns-clause-cause
returns-clause-cause g c = λ failed.
    cause_from _ _ _ _ _ _ _ _ c.in-Ok-prepare_all.ensures.quiet refl (c.apply_lines-status.ensures.cause _ c.prepare_all.ensures.counted failed)

pub returns-clause-quiet : goal.returns-clause-quiet
returns-clause-quiet g c = λ fine.
    none_from _ _ _ _ _ _ _ _ c.in-Ok-prepare_all.ensures.quiet refl (c.apply_lines-status.ensures.quiet _ c.prepare_all.ensures.counted fine)

-- the world was not opened: nothing more was read, and nothing written
pub returns-in_default-opened-clause-quiet : goal.returns-in_default-opened-clause-quiet
returns-in_default-opened-clause-quiet g c = λ fine. record {
  reader_quiet = c.in-Ok-prepare_all.ensures.quiet;
  writer_quiet = refl;
  count = c.prepare_all.new.ahead.count;
  few = c.in-Ok-prepare_all.ensures.next.below;
  read = has_read _ _ _ c.prepare_all.ensures.counted;
}

pub returns-clause-status : goal.returns-clause-status
returns-clause-status g c = inr c.apply_lines-status.ensures.status
