use Rattle.std.proofs.Common.{◌≤◌, ◌∙◌, length, refl, ap, sym, arith}
use Rattle.std.proofs.KnownBytes.{Keeps-trans}
use Rattle.streams.specs.Lines.{lacks}
use Rattle.streams.specs.ReadAhead.{held}
use Rattle.streams.proofs.ReadLemmas.{counted_more}
use Rattle.streams.proofs.line.read_line.Goals as goal

pub returns-in-Ok-false-clause-line : goal.returns-in-Ok-false-clause-line
returns-in-Ok-false-clause-line g c =
    let filled = rw c.in-Ok-false.field-0-test at c.in-Ok-false.ensures.filled in
    let text = c.as_slice-text.ensures in
    let size = ap length (filled.same refl ∙ sym text) in
    record {
      end = record {
        size = size;
        short = c.in_default.ensures.short;
        plain = ap (lacks 10) (filled.same refl ∙ sym text) ∙ c.in_default.ensures.plain;
        end = filled.end refl;
      };
      within = c.in_default.ensures.short;
      inside = omega (arith, size);
    }

pub returns-in-Ok-false-clause-counted : goal.returns-in-Ok-false-clause-counted
returns-in-Ok-false-clause-counted g c = counted_more _ _ _ _ _ _ c.reads.invariant.counted c.fill.ensures.counted

pub returns-in-Err-clause-counted : goal.returns-in-Err-clause-counted
returns-in-Err-clause-counted g c = counted_more _ _ _ _ _ _ c.reads.invariant.counted c.fill.ensures.counted

pub reads-preserved : goal.reads-preserved
reads-preserved g c =
    let filled = rw c.in-Ok-true.field-0-test at c.in-Ok-true.ensures.filled in
    let short : length (held c.reads.ahead) ≤ 8192 = rw c.as_slice-text.ensures at c.in_default.ensures.short in
    let read = filled.more refl in
    let grown = c.fill.ensures.grown in
    let long = c.reads.invariant.long in
    record {
      few = omega arith;
      long = omega arith;
      kept = Keeps-trans _ _ _ c.reads.invariant.kept c.fill.ensures.kept;
      grown = let e = c.reads.invariant.grown in omega arith;
      counted = counted_more _ _ _ _ _ _ c.reads.invariant.counted c.fill.ensures.counted;
      below = c.in-Ok-true.ensures.below;
      quiet = c.in-Ok-true.ensures.quiet ∙ c.reads.invariant.quiet;
    }
