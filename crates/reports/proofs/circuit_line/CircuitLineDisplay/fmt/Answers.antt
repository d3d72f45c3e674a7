use Rattle.std.proofs.Common.{rules}
use Rattle.std.proofs.Output.{has_written_append, has_written_of_eq}
use Rattle.std.specs.Result.{IsOk}
use Rattle.reports.specs.CircuitLine.{dropped_parts}
use Rattle.reports.proofs.CircuitLineLemmas.{whole_line}
use Rattle.reports.proofs.circuit_line.CircuitLineDisplay.fmt.Goals as goal

pub returns-clause-writes : goal.returns-clause-writes
returns-clause-writes g c = λ plain ok.
    let line = c.args.self.now in
    let first : IsOk c.write_reasons.result = search rules in
    let second : IsOk c.write_declined.result = search rules in
    let reasons = c.write_reasons.ensures plain first in
    let declined = has_written_append _ _ _ _ _ _ reasons (c.write_declined.ensures reasons.plain second) in
    has_written_of_eq _ _ _ _ _
    (whole_line line.circuit.now (dropped_parts line.counts.now) line.declined c.has_dropped-has_parts.result c.has_begun.result c.has_dropped-has_parts.ensures c.has_begun.ensures)
    (has_written_append _ _ _ _ _ _ declined (c.write_end.ensures declined.plain ok))
