use Rattle.std.proofs.Common.{refl}
use Rattle.lease_disk.specs.Model.{disk_region}
use Rattle.lease_disk.proofs.Fresh.{crashed_clean, synced_clean}
use Rattle.format_tests.proofs.stop_tests.settle.Goals as goal

pub returns-in-Some-clause-clean : goal.returns-in-Some-clause-clean
returns-in-Some-clause-clean c = crashed_clean c.in-Some.byte (disk_region c.args.disk.now 0) (disk_region c.crash.new.self 0) c.crash.ensures.state

pub returns-clause-clean : goal.returns-clause-clean
returns-clause-clean c = synced_clean c.sync.result (disk_region c.args.disk.now 0) (disk_region c.sync.new.self 0) (c.sync.ensures.ok refl)
