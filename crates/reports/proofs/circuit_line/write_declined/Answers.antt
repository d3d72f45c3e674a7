use Rattle.std.proofs.Common.{◌<◌, arith, rules}
use Rattle.std.proofs.Output.{has_written_append, has_written_of_eq}
use Rattle.std.specs.Result.{IsOk}
use Rattle.reports.proofs.CircuitLineLemmas.{joined_declined}
use Rattle.reports.proofs.circuit_line.write_declined.Goals as goal

pub returns : goal.returns
returns g c = λ plain ok.
    let first : IsOk c.write_lead.result = search rules in
    let led = c.write_lead.ensures plain first in
    let some : 0 < c.args.declined = omega arith in
    has_written_of_eq _ _ _ _ _ (joined_declined c.args.has_parts c.args.circuit.now c.args.declined some) (has_written_append _ _ _ _ _ _ led (c.write.ensures.writes led.plain ok))
