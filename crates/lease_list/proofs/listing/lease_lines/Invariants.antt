use Rattle.std.proofs.Common.{take}
use Rattle.std.specs.Prelude.{string_bytes}
use Rattle.std.specs.List.{AllZip}
use Rattle.lease_list.specs.Line.{IsLeaseLine}
use Rattle.lease_list.proofs.listing.lease_lines.Given as goal

abbrev pub invariant-loop-i : goal.invariant-loop-i
invariant-loop-i l = AllZip (λ lease line. IsLeaseLine l.circuit lease l.at l.form (string_bytes line)) (take l.i l.leases) l.lines.items
