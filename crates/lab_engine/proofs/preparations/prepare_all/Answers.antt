use Rattle.std.proofs.Common.{◌+◌, ◌∙◌, true, false, length, take, refl, ap, sym, subst, arith, length-drop}
use Rattle.std.proofs.KnownBytes.{Keeps-refl}
use Rattle.std.specs.Io.KnownBytes.{prepend_known}
use Rattle.lease_disk.specs.Model.{device_of, disk_region}
use Rattle.lab_engine.specs.Preparations.{PreparedSoFar}
use Rattle.lab_engine.specs.Progress.{IsParsedIn}
use Rattle.streams.specs.declared.line.LineEnd.TheVariants.{Newline}
use Rattle.lab_engine.specs.Lab.{prepared}
use Rattle.lab_text.specs.Line.{line_of_text}
use Rattle.streams.specs.LineEnd.{Fits}
use Rattle.streams.specs.ReadAhead.{held}
use Rattle.streams.proofs.AheadLemmas.{line_consumed}
use Rattle.lab_engine.proofs.PreparationLemmas.{IsBegun, begun_long, begun_newline, prepared_begun, prepared_first, prepared_kept, prepared_next, formatted_are_ready, formatted_over, not_parsed, nothing_held, ready_for, ready_twice}
use Rattle.streams.proofs.ReadLemmas.{counted_none, counted_more}
use Rattle.lab_engine.proofs.StartLemmas.{part_within}
use Rattle.lab_engine.proofs.preparations.prepare_all.Goals as goal

pub lines-init : goal.lines-init
lines-init g c = record {
  disk = record { regions = refl; ready = formatted_are_ready _ (disk_region c.args.disk.now) c.requires.formatted.formatted };
  lines = omega (arith, c.requires.count, ap length c.requires.held);
  below = omega (arith, c.requires.count);
  quiet = refl;
  counted = rw c.requires.count (counted_none _ 0);
  so_far = λ quota.
      nothing_held c.args.plans.now quota _ (held c.args.ahead.now) (device_of c.args.disk.now) c.requires.held
      (prepared_first c.args.plans.now quota _ (device_of c.args.disk.now)
      (formatted_over c.args.plans.now quota (length c.args.disk.now.regions) (device_of c.args.disk.now) (λ n part h. part_within c.args.plans.now.union (length c.args.disk.now.regions) n part c.requires.regions h) c.requires.formatted.formatted c.requires.formatted.sound));
}

pub returns-in_default-clause-counted : goal.returns-in_default-clause-counted
returns-in_default-clause-counted g c = counted_more _ _ _ _ _ _ c.lines.invariant.counted c.read_line.ensures.counted

pub returns-in-TooLong-clause-prepared : goal.returns-in-TooLong-clause-prepared
returns-in-TooLong-clause-prepared g c = λ quota.
    rw c.new.ensures
    (prepared_begun c.args.plans.now quota (c.lines.earlier + 1) _ _ (device_of c.lines.disk) _
    (prepared_kept c.args.plans.now quota (c.lines.earlier + 1) false _ _ _ (device_of c.lines.disk) _ (c.lines.invariant.so_far quota) c.read_line.ensures.kept)
    (subst (λ e. IsBegun c.args.plans.now quota (c.lines.earlier + 1) (Fits (held c.read_line.new.ahead) e)) (sym c.in-TooLong.is)
    (begun_long c.args.plans.now quota (c.lines.earlier + 1) (held c.read_line.new.ahead) (rw c.in-TooLong.is at c.in-Ok.ensures.line.end))))

pub returns-in-TooLong-clause-counted : goal.returns-in-TooLong-clause-counted
returns-in-TooLong-clause-counted g c = counted_more _ _ _ _ _ _ c.lines.invariant.counted c.read_line.ensures.counted

pub returns-in-TooLong-clause-next : goal.returns-in-TooLong-clause-next
returns-in-TooLong-clause-next g c =
    rw c.new.ensures
    (record {
      end = c.in-Ok.ensures.line.end;
      line = not_parsed _ _ _ _ _ c.in-Ok.ensures.line;
      lines = omega (arith, c.read_line.ensures.grown, c.lines.invariant.lines);
      below = c.in-Ok.ensures.below;
    })

pub prepare-requires-clause-disk : goal.prepare-requires-clause-disk
prepare-requires-clause-disk g c = ready_for c.args.plans.now.union c.args.disk.now c.lines.disk c.requires.regions c.lines.invariant.disk

pub prepare_last-end-requires-clause-disk : goal.prepare_last-end-requires-clause-disk
prepare_last-end-requires-clause-disk g c = ready_for c.args.plans.now.union c.args.disk.now c.lines.disk c.requires.regions c.lines.invariant.disk

pub returns-in-EndOfInput-clause-prepared : goal.returns-in-EndOfInput-clause-prepared
returns-in-EndOfInput-clause-prepared g c = λ quota.
    rw c.new-in-EndOfInput.ensures
    (c.prepare_last-end.ensures.prepared quota (c.lines.earlier + 1) _ _ (rw c.in-EndOfInput.is at c.in-Ok.ensures.line.end)
    (prepared_kept c.args.plans.now quota (c.lines.earlier + 1) false _ _ _ (device_of c.lines.disk) _ (c.lines.invariant.so_far quota) c.read_line.ensures.kept))

pub returns-in-EndOfInput-clause-next : goal.returns-in-EndOfInput-clause-next
returns-in-EndOfInput-clause-next g c =
    rw c.new-in-EndOfInput.ensures
    (record {
      end = c.prepare_last-end.ensures.end _ (rw c.in-EndOfInput.is at c.in-Ok.ensures.line.end);
      line = c.prepare_last-end.ensures.line;
      lines = omega (arith, c.prepare_last-end.ensures.shorter, c.prepare_last-end.ensures.count, c.read_line.ensures.grown, c.lines.invariant.lines);
      below = omega (arith, c.prepare_last-end.ensures.count, c.in-Ok.ensures.below);
    })

pub returns-in-EndOfInput-clause-disk : goal.returns-in-EndOfInput-clause-disk
returns-in-EndOfInput-clause-disk g c = ready_twice _ _ _ c.lines.invariant.disk c.prepare_last-end.ensures.disk

pub returns-in-EndOfInput-clause-counted : goal.returns-in-EndOfInput-clause-counted
returns-in-EndOfInput-clause-counted g c = rw c.prepare_last-end.ensures.count (counted_more _ _ _ _ _ _ c.lines.invariant.counted c.read_line.ensures.counted)

pub returns-in-Some-clause-prepared : goal.returns-in-Some-clause-prepared
returns-in-Some-clause-prepared g c = λ quota.
    let feeds = rw c.in-Newline.is at c.in-Ok.ensures.line.end in
    rw c.new-in-Some.ensures (subst (λ d. PreparedSoFar c.args.plans.now quota (c.lines.earlier + 1) true (g.R.ByteReader.remaining c.args.reader.now) (prepend_known (held c.read_line.new.ahead) (g.R.ByteReader.remaining c.read_line.new.reader)) (device_of d) (Fits (held c.read_line.new.ahead) (Newline c.in-Newline.len)))
    (sym c.in-Some.ensures.same)
    (prepared_begun c.args.plans.now quota (c.lines.earlier + 1) _ _ (device_of c.lines.disk) _
    (prepared_kept c.args.plans.now quota (c.lines.earlier + 1) false _ _ _ (device_of c.lines.disk) _ (c.lines.invariant.so_far quota) c.read_line.ensures.kept)
    (begun_newline c.args.plans.now quota (c.lines.earlier + 1) (held c.read_line.new.ahead) c.in-Newline.len feeds
    (λ openings. ap (λ text. prepared (line_of_text c.args.plans.now.union c.args.plans.now.count (take c.in-Newline.len text)) openings) (sym c.as_slice.ensures) ∙ c.in-Some.ensures.event openings))))

pub returns-in-Some-clause-counted : goal.returns-in-Some-clause-counted
returns-in-Some-clause-counted g c = counted_more _ _ _ _ _ _ c.lines.invariant.counted c.read_line.ensures.counted

pub returns-in-Some-clause-next : goal.returns-in-Some-clause-next
returns-in-Some-clause-next g c =
    let read = rw c.in-Newline.is at c.in-Ok.ensures.line in
    rw c.new-in-Some.ensures
    (record {
      end = read.end;
      line = record {
        within = read.within;
        inside = read.inside;
        parsed = subst (λ text. IsParsedIn c.args.plans.now c.prepare.new.buffers (take c.in-Newline.len text) c.in-Some.event) c.as_slice.ensures c.in-Some.ensures.parsed;
      };
      lines = omega (arith, c.read_line.ensures.grown, c.lines.invariant.lines);
      below = c.in-Ok.ensures.below;
    })

pub returns-in-Some-clause-disk : goal.returns-in-Some-clause-disk
returns-in-Some-clause-disk g c = ready_twice _ _ _ c.lines.invariant.disk c.prepare.ensures.disk

pub lines-preserved : goal.lines-preserved
lines-preserved g c =
    let feeds = rw c.in-Newline.is at c.in-Ok.ensures.line.end in
    let inside = feeds.inside in
    let text = c.as_slice.result.now in
    let left = ap length c.consume.ensures.held ∙ length-drop (c.in-Newline.len + 1) (held c.read_line.new.ahead) in
    record {
      disk = ready_twice _ _ _ c.lines.invariant.disk c.prepare.ensures.disk;
      lines = omega (arith, inside, left, c.consume.ensures.count, c.read_line.ensures.grown, c.lines.invariant.lines);
      below = omega (arith, c.consume.ensures.count, c.in-Ok.ensures.below);
      quiet = c.in-Ok.ensures.quiet ∙ c.lines.invariant.quiet;
      counted = rw c.consume.ensures.count (counted_more _ _ _ _ _ _ c.lines.invariant.counted c.read_line.ensures.counted);
      so_far = λ quota.
          prepared_next c.args.plans.now quota (c.lines.earlier + 1) _ _ _ (device_of c.lines.disk) (device_of c.prepare.new.disk) (take c.in-Newline.len text)
          (prepared_kept c.args.plans.now quota (c.lines.earlier + 1) false _ _ _ (device_of c.lines.disk) _ (c.lines.invariant.so_far quota) c.read_line.ensures.kept)
          (line_consumed _ _ (held c.read_line.new.ahead) text _ c.in-Newline.len c.as_slice.ensures c.consume.ensures.held (Keeps-refl _) feeds)
          (λ openings over. c.in_default-prepare.ensures.prepared quota openings over);
    }
