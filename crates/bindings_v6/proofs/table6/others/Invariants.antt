use Rattle.std.proofs.Common.{◌≡◌, ◌≤◌, length, take}
use Rattle.types.specs.Addr.{number6}
use Rattle.bindings_v6.specs.Table6.{others}
use Rattle.bindings_v6.proofs.table6.others.Given as goal

abbrev pub invariant-loop-other : goal.invariant-loop-other
invariant-loop-other l = (l.others.items ≡ others (number6 l.address) (take l.other-index l.listed)) × (length l.others.items ≤ l.other-index)
