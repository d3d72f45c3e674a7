use Rattle.std.proofs.Common.{length, refl, ap, arith}
use Rattle.lab_engine.specs.Lab.{events_output}
use Rattle.lab_engine.proofs.CauseLemmas.{cause_from, none_from, read_failed}
use Rattle.streams.proofs.ReadLemmas.{counted_none}
use Rattle.lab_engine.proofs.PreparationLemmas.{not_parsed}
use Rattle.lab_engine.proofs.RunLemmas.{at_start, ended_written, partial_none}
use Rattle.lab_engine.proofs.engine.lab.Goals as goal

pub returns-in_default-clause-partial : goal.returns-in_default-clause-partial
returns-in_default-clause-partial g c = λ quota machines represents knows failed.
    partial_none (events_output c.args.plans.now quota machines) _ _ _ _ _ _ c.flush_and_read_line.ensures.counted c.flush_and_read_line.ensures.written

pub returns-in_default-clause-cause : goal.returns-in_default-clause-cause
returns-in_default-clause-cause g c = λ failed.
    read_failed _ _ _ _ _ _ _ _ _ _ _ refl refl (rw c.new-ahead.ensures.count (counted_none _ 0)) c.flush_and_read_line.ensures.counted c.in_default.ensures.cause

pub apply_lines-requires : goal.apply_lines-requires
apply_lines-requires g c = record {
  next = record {
    end = c.in-Ok.ensures.line.end;
    line = not_parsed _ _ _ _ _ c.in-Ok.ensures.line;
    lines = omega (arith, c.flush_and_read_line.ensures.grown, c.new-ahead.ensures.count, ap length c.new-ahead.ensures.held);
    below = c.in-Ok.ensures.below;
  };
}

pub returns-clause-written : goal.returns-clause-written
returns-clause-written g c = λ quota machines text represents knows is fine.
    ended_written (events_output c.args.plans.now quota machines) text _ _ _ _ c.apply_lines.result
    (c.apply_lines.ensures.ends quota (events_output c.args.plans.now quota machines) _ _
    (at_start c.args.plans.now quota machines _ _ _ _ _ _ _ c.new-ahead.ensures.held c.flush_and_read_line.ensures.kept c.flush_and_read_line.ensures.written represents) knows) is fine

pub returns-clause-partial : goal.returns-clause-partial
returns-clause-partial g c = λ quota machines represents knows failed.
    let ends = c.apply_lines.ensures.ends quota (events_output c.args.plans.now quota machines) _ _
    (at_start c.args.plans.now quota machines _ _ _ _ _ _ _ c.new-ahead.ensures.held c.flush_and_read_line.ensures.kept c.flush_and_read_line.ensures.written represents) knows in
    record { read = ends.read; consumed = ends.consumed; partial = ends.partial failed }

pub returns-clause-cause : goal.returns-clause-cause
returns-clause-cause g c = λ failed.
    cause_from _ _ _ _ _ _ _ _ c.in-Ok.ensures.quiet c.in-Ok.ensures.writer_quiet
    (c.apply_lines.ensures.cause _ (rw c.new-ahead.ensures.count at c.flush_and_read_line.ensures.counted) failed)

pub returns-clause-quiet : goal.returns-clause-quiet
returns-clause-quiet g c = λ fine.
    none_from _ _ _ _ _ _ _ _ c.in-Ok.ensures.quiet c.in-Ok.ensures.writer_quiet
    (c.apply_lines.ensures.quiet _ (rw c.new-ahead.ensures.count at c.flush_and_read_line.ensures.counted) fine)
