use Rattle.std.proofs.Common.{◌∙◌}
use Rattle.counts.specs.Counts.{reasons}
use Rattle.reports.proofs.CircuitLineLemmas.{begun_more}
use Rattle.reports.proofs.circuit_line.has_dropped.Goals as goal

pub reasons-preserved : goal.reasons-preserved
reasons-preserved c =
    c.has_begun-has_parts.ensures ∙ begun_more c.args.counts.now reasons c.reasons.why-index _ c.reasons.has_parts c.dropped.result c.reasons-test.true c.reasons.invariant c.dropped.ensures
