use Rattle.std.proofs.Common.{◌≡◌, length}
use Rattle.std.specs.Prelude.{nat_le}
use Rattle.v6_options.specs.Reading.{listed}
use Rattle.v6_message.specs.Lists.{count}
use Rattle.v6_message.proofs.count.has_at_most.Given as goal

abbrev pub invariant-row : goal.invariant-row
invariant-row l = nat_le (count l.code (listed l.left)) l.free ≡ nat_le (count l.code (listed l.bytes)) l.limit

abbrev pub decreases-row : goal.decreases-row
decreases-row l = length l.left
