use Rattle.std.specs.Prelude.{◌≡◌, take}
use Rattle.reports.specs.CircuitLine.{dropped_parts_of, has_parts}
use Rattle.reports.proofs.circuit_line.has_dropped.Given as goal

abbrev pub invariant-reasons : goal.invariant-reasons
invariant-reasons l = l.has_parts ≡ has_parts (dropped_parts_of l.counts (take l.why-index l.why-items))
