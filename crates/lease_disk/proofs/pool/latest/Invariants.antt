use Rattle.std.proofs.Common.{◌≡◌, drop}
use Rattle.std.specs.Prelude.{max}
use Rattle.lease_disk.specs.Recovered.{latest}
use Rattle.lease_disk.proofs.pool.latest.Given as goal

abbrev pub invariant-loop-entry : goal.invariant-loop-entry
invariant-loop-entry g l = latest l.entries ≡ max l.clock (latest (drop l.entry-index l.entries))
