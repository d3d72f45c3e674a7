use Rattle.std.specs.Prelude.{◌≡◌, false, take}
use Rattle.std.specs.Fmt.{HasWritten, IsPlainFormatter}
use Rattle.reports.specs.CircuitLine.{dropped_parts_of, has_parts, joined}
use Rattle.reports.proofs.circuit_line.write_reasons.Given as goal

abbrev pub invariant-reasons : goal.invariant-reasons
invariant-reasons g l = record {
  begun : l.has_parts ≡ has_parts (dropped_parts_of l.counts (take l.why-index l.why-items));
  written :
      IsPlainFormatter l.initial.f → HasWritten g.W.Write.write_str_gives l.initial.f (joined false l.circuit (dropped_parts_of l.counts (take l.why-index l.why-items))) l.f;
}
