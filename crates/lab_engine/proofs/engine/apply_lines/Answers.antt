use Rattle.std.proofs.Common.{◌≡◌, ◌+◌, ◌++◌, ◌∷◌, [], ◌∙◌, length, refl, take, drop, arith, length-drop, ap, sym, subst}
use Rattle.std.specs.Prelude.{Some, IfSome}
use Rattle.std.proofs.KnownBytes.{Keeps-refl}
use Rattle.lab_engine.specs.Progress.{IsParsedIn}
use Rattle.streams.specs.ReadAhead.{held}
use Rattle.streams.proofs.AheadLemmas.{line_consumed, last_consumed, cut_consumed}
use Rattle.lab_engine.proofs.CauseLemmas.{read_failed, still_none_failed, write_failed}
use Rattle.streams.proofs.ReadLemmas.{counted_none, counted_more}
use Rattle.lab_engine.proofs.RunLemmas.{so_far_kept, next_line, ends_cut, ends_last, ends_feed, ends_too_long, fits_last}
use Rattle.lab_engine.proofs.engine.apply_lines.Goals as goal

pub lines-init : goal.lines-init
lines-init g c = record {
  plans_known = λ set knows. knows;
  end = c.requires.next.end;
  within = c.requires.next.line.within;
  inside = c.requires.next.line.inside;
  known = c.requires.next.line.parsed;
  lines = c.requires.next.lines;
  below = c.requires.next.below;
  reader_quiet = refl;
  writer_quiet = refl;
  counted = counted_none _ _;
  so_far = λ quota output given holds start knows. start;
}

pub returns-in-TooLong-clause-ends : goal.returns-in-TooLong-clause-ends
returns-in-TooLong-clause-ends g c = λ quota output given holds start knows.
    let long = rw c.in-TooLong.is at c.lines.invariant.end in
    let so_far = rw c.in-TooLong.is at (c.lines.invariant.so_far quota output given holds start knows) in
    ends_too_long c.args.plans.now quota (c.lines.earlier + 1) output given _ holds _ _ _ (held c.lines.ahead) c.refuse.result so_far long c.refuse.ensures.refusal

pub returns-in-TooLong-clause-cause : goal.returns-in-TooLong-clause-cause
returns-in-TooLong-clause-cause g c = λ given counted failed. write_failed _ _ _ _ _ _ _ c.lines.invariant.writer_quiet (c.refuse.ensures.cause failed)

pub returns-in-TooLong-clause-quiet : goal.returns-in-TooLong-clause-quiet
returns-in-TooLong-clause-quiet g c = λ given counted fine.
    still_none_failed _ _ _ _ _ _ _ _ c.lines.invariant.reader_quiet c.lines.invariant.writer_quiet (c.refuse.ensures.quiet fine)
    (counted_more _ _ _ _ _ _ counted c.lines.invariant.counted) c.lines.invariant.below

pub apply_last_line-requires-clause-known : goal.apply_last_line-requires-clause-known
apply_last_line-requires-clause-known g c =
    let known = rw c.in-EndOfInput.is at c.lines.invariant.known in
    subst (λ text. IfSome c.lines.known (IsParsedIn c.args.plans.now c.lines.buffers (take c.in-EndOfInput.len text))) (sym c.as_slice.ensures) known

pub apply_line-ended-requires-clause-known : goal.apply_line-ended-requires-clause-known
apply_line-ended-requires-clause-known g c =
    let known = rw c.in-Newline.is at c.lines.invariant.known in
    subst (λ text. IfSome c.lines.known (IsParsedIn c.args.plans.now c.lines.buffers (take c.in-Newline.len text))) (sym c.as_slice-in-lines.ensures) known

pub returns-in-EndOfInput-clause-ends : goal.returns-in-EndOfInput-clause-ends
returns-in-EndOfInput-clause-ends g c = λ quota output given holds start knows.
    let last = rw c.in-EndOfInput.is at c.lines.invariant.end in
    let so_far = rw c.in-EndOfInput.is at (c.lines.invariant.so_far quota output given holds start knows) in
    let line = take c.in-EndOfInput.len c.as_slice.result.now in
    ends_last c.args.plans.now quota (c.lines.earlier + 1) output given _ _ holds _ _ _ _ _ line c.apply_last_line.result so_far
    (last_consumed _ _ (held c.lines.ahead) c.as_slice.result.now c.in-EndOfInput.len c.as_slice.ensures (Keeps-refl _) last)
    (fits_last (held c.lines.ahead) c.as_slice.result.now _ c.in-EndOfInput.len c.as_slice.ensures last)
    (λ machines represents. c.apply_last_line.ensures.follows quota machines represents (c.lines.invariant.plans_known c.args.plans.now knows))

pub returns-in-EndOfInput-clause-cause : goal.returns-in-EndOfInput-clause-cause
returns-in-EndOfInput-clause-cause g c = λ given counted failed. write_failed _ _ _ _ _ _ _ c.lines.invariant.writer_quiet (c.apply_last_line.ensures.cause failed)

pub returns-in-EndOfInput-clause-quiet : goal.returns-in-EndOfInput-clause-quiet
returns-in-EndOfInput-clause-quiet g c = λ given counted fine.
    still_none_failed _ _ _ _ _ _ _ _ c.lines.invariant.reader_quiet c.lines.invariant.writer_quiet (c.apply_last_line.ensures.quiet fine)
    (counted_more _ _ _ _ _ _ counted c.lines.invariant.counted) c.lines.invariant.below

pub returns-in-Some-clause-ends : goal.returns-in-Some-clause-ends
returns-in-Some-clause-ends g c = λ quota output given holds start knows.
    let feeds = rw c.in-Newline.is at c.lines.invariant.end in
    let so_far = rw c.in-Newline.is at (c.lines.invariant.so_far quota output given holds start knows) in
    let text = c.as_slice-in-lines.result.now in
    ends_feed c.args.plans.now quota (c.lines.earlier + 1) output given _ _ holds _ _ _ _ _ (take c.in-Newline.len text) (drop (c.in-Newline.len + 1) (held c.lines.ahead)) c.in-Some.status so_far
    (line_consumed _ _ (held c.lines.ahead) text _ c.in-Newline.len c.as_slice-in-lines.ensures refl (Keeps-refl _) feeds)
    (λ rest. (rest, ap (λ v. (take c.in-Newline.len v ++ 10 ∷ []) ++ rest) c.as_slice-in-lines.ensures))
    (λ machines represents. c.in-Some.ensures.follows quota machines represents (c.lines.invariant.plans_known c.args.plans.now knows))

pub returns-in-Some-clause-cause : goal.returns-in-Some-clause-cause
returns-in-Some-clause-cause g c = λ given counted failed.
    write_failed _ _ _ _ _ _ _ c.lines.invariant.writer_quiet (c.in-Some.ensures.status.cause (ap Some failed))

pub returns-in-Some-clause-quiet : goal.returns-in-Some-clause-quiet
returns-in-Some-clause-quiet g c = λ given counted fine.
    still_none_failed _ _ _ _ _ _ _ _ c.lines.invariant.reader_quiet c.lines.invariant.writer_quiet
    (c.in-Some.ensures.status.quiet (λ (e : Some c.in-Some.status ≡ Some 6). fine (cc)))
    (counted_more _ _ _ _ _ _ counted c.lines.invariant.counted) c.lines.invariant.below

pub returns-in_default-flush_and_read_line-clause-ends : goal.returns-in_default-flush_and_read_line-clause-ends
returns-in_default-flush_and_read_line-clause-ends g c = λ quota output given holds start knows.
    let feeds = rw c.in-Newline.is at c.lines.invariant.end in
    let so_far = rw c.in-Newline.is at (c.lines.invariant.so_far quota output given holds start knows) in
    let text = c.as_slice-in-lines.result.now in
    let next = next_line c.args.plans.now quota (c.lines.earlier + 1) output given _ _ holds _ _ _ _ _ (take c.in-Newline.len text) so_far
    (line_consumed _ _ (held c.lines.ahead) text _ c.in-Newline.len c.as_slice-in-lines.ensures c.consume.ensures.held (Keeps-refl _) feeds)
    (λ rest. (rest, ap (λ v. (take c.in-Newline.len v ++ 10 ∷ []) ++ rest) c.as_slice-in-lines.ensures))
    (λ machines represents. c.in_default.ensures.follows quota machines represents (c.lines.invariant.plans_known c.args.plans.now knows)) in
    ends_cut c.args.plans.now quota ((c.lines.earlier + 1) + 1) output given _ _ holds _ _ _
    (so_far_kept c.args.plans.now quota ((c.lines.earlier + 1) + 1) output given _ _ holds _ _ _ _ _ next (Keeps-refl _) c.flush_and_read_line.ensures.written (λ rest known. known))
    (cut_consumed _ _ (held c.flush_and_read_line.new.ahead) c.flush_and_read_line.ensures.kept) tt

pub returns-in_default-flush_and_read_line-clause-cause : goal.returns-in_default-flush_and_read_line-clause-cause
returns-in_default-flush_and_read_line-clause-cause g c = λ given counted failed.
    read_failed _ _ _ _ _ _ _ _ _ _ _ c.lines.invariant.reader_quiet (c.in_default.ensures.status.quiet (λ e. absurd (cc)) ∙ c.lines.invariant.writer_quiet)
    (rw c.consume.ensures.count (counted_more _ _ _ _ _ _ counted c.lines.invariant.counted)) c.flush_and_read_line.ensures.counted c.in_default-flush_and_read_line.ensures.cause

pub lines-preserved : goal.lines-preserved
lines-preserved g c =
    let feeds = rw c.in-Newline.is at c.lines.invariant.end in
    let inside = feeds.inside in
    let text = c.as_slice-in-lines.result.now in
    let left = ap length c.consume.ensures.held ∙ length-drop (c.in-Newline.len + 1) (held c.lines.ahead) in
    record {
      plans_known = λ set knows. c.in_default.ensures.status.known set (c.lines.invariant.plans_known set knows);
      end = c.in-Ok.ensures.line.end;
      within = c.in-Ok.ensures.line.within;
      inside = c.in-Ok.ensures.line.inside;
      known = tt;
      lines = omega (arith, inside, left, c.consume.ensures.count, c.flush_and_read_line.ensures.grown, c.lines.invariant.lines);
      below = c.in-Ok.ensures.below;
      reader_quiet = c.in-Ok.ensures.quiet ∙ c.lines.invariant.reader_quiet;
      writer_quiet = c.in-Ok.ensures.writer_quiet ∙ c.in_default.ensures.status.quiet (λ e. absurd (cc)) ∙ c.lines.invariant.writer_quiet;
      counted = counted_more _ _ _ _ _ _ c.lines.invariant.counted (rw c.consume.ensures.count at c.flush_and_read_line.ensures.counted);
      so_far = λ quota output given holds start knows.
          let so_far = rw c.in-Newline.is at (c.lines.invariant.so_far quota output given holds start knows) in
          let next = next_line c.args.plans.now quota (c.lines.earlier + 1) output given _ _ holds _ _ _ _ _ (take c.in-Newline.len text) so_far
          (line_consumed _ _ (held c.lines.ahead) text _ c.in-Newline.len c.as_slice-in-lines.ensures c.consume.ensures.held (Keeps-refl _) feeds)
          (λ rest. (rest, ap (λ v. (take c.in-Newline.len v ++ 10 ∷ []) ++ rest) c.as_slice-in-lines.ensures))
          (λ machines represents. c.in_default.ensures.follows quota machines represents (c.lines.invariant.plans_known c.args.plans.now knows)) in
          so_far_kept c.args.plans.now quota ((c.lines.earlier + 1) + 1) output given _ _ holds _ _ _ _ _ next c.flush_and_read_line.ensures.kept c.flush_and_read_line.ensures.written (λ rest known. tt);
    }
