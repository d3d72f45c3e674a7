use Rattle.std.proofs.Common.{◌≡◌, length}
use Rattle.format_tests.proofs.recovery_tests.change.Given as goal

abbrev pub invariant-loop-at : goal.invariant-loop-at
invariant-loop-at l = length l.disk.regions ≡ 1
