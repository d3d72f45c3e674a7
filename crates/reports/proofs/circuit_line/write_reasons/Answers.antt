use Rattle.std.proofs.Common.{◌∙◌, rules}
use Rattle.std.proofs.Output.{has_written_append, has_written_of_eq}
use Rattle.std.specs.Result.{IsOk}
use Rattle.counts.specs.Counts.{reasons}
use Rattle.reports.proofs.CircuitLineLemmas.{begun_more, joined_more}
use Rattle.reports.proofs.circuit_line.write_reasons.Goals as goal

pub reasons-preserved : goal.reasons-preserved
reasons-preserved g c =
    let counts = c.args.counts.now in
    let at = c.reasons.why-index in
    record {
      begun = c.has_begun-has_parts.ensures ∙ begun_more counts reasons at _ c.reasons.has_parts c.dropped-dropped.result c.reasons-test.true c.reasons.invariant.begun c.dropped-dropped.ensures;
      written = λ plain.
          let so_far = c.reasons.invariant.written plain in
          let ok : IsOk c.write_dropped.result = search rules in
          has_written_of_eq _ _ _ _ _ (joined_more c.args.circuit.now counts reasons at _ c.reasons.has_parts c.dropped-dropped.result c.reasons-test.true c.reasons.invariant.begun c.dropped-dropped.ensures)
          (has_written_append _ _ _ _ _ _ so_far (c.write_dropped.ensures so_far.plain ok));
    }
