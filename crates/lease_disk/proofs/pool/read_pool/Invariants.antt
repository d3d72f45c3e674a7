use Rattle.std.proofs.Common.{◌+◌}
use Rattle.std.specs.Prelude.{Some, nat_lt, if◌then◌else◌}
use Rattle.lease_disk.specs.Layout.{with_halves}
use Rattle.lease_disk.specs.Recovered.{entry, saved_at}
use Rattle.lease_disk.proofs.Reading.{Goes}
use Rattle.lease_disk.proofs.pool.read_pool.Given as goal

abbrev pub invariant-entries : goal.invariant-entries
invariant-entries g l = Goes (λ i. if nat_lt i l.count then entry g.S.Slot.read (with_halves l.halves) (l.begin + i) else Some (saved_at l.clock g.S.Slot.FREE)) 16 l.i l.entries
