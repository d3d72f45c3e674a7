use Rattle.std.specs.Prelude.{take}
use Rattle.std.specs.Fmt.{HasWritten, IsPlainFormatter}
use Rattle.std.specs.List.{flat_map}
use Rattle.counts.specs.Counts.{dropped_text}
use Rattle.counts.proofs.counts.write_reasons.Given as goal

abbrev pub invariant-reasons : goal.invariant-reasons
invariant-reasons g l =
    IsPlainFormatter l.initial.f → HasWritten g.W.Write.write_str_gives l.initial.f (flat_map (dropped_text l.counts.dropped) (take l.why-index l.why-items)) l.f
