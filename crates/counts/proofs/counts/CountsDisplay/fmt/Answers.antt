use Rattle.std.proofs.Common.{rules}
use Rattle.std.proofs.Output.{has_written_append}
use Rattle.std.specs.Result.{IsOk}
use Rattle.counts.proofs.counts.CountsDisplay.fmt.Goals as goal

pub returns-clause-writes : goal.returns-clause-writes
returns-clause-writes g c = λ plain ok.
    let first : IsOk c.write_totals.result = search rules in
    let totals = c.write_totals.ensures plain first in
    has_written_append _ _ _ _ _ _ totals (c.write_reasons.ensures totals.plain ok)
