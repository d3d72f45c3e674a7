use Rattle.std.proofs.Common.{length, refl}
use Rattle.lease_disk.specs.Model.{device_of, disk_region}
use Rattle.lab_engine.proofs.StartLemmas.{are_synced, memory_lacks, represents_ok}
use Rattle.lab_engine.proofs.opening.opened.Goals as goal

pub open_plans-requires-clause-synced : goal.open_plans-requires-clause-synced
open_plans-requires-clause-synced c = are_synced c.args.plans.now.union (length c.args.disk.regions) (disk_region c.args.disk) c.requires.disk.regions c.requires.disk.ready

pub returns-clause-represents : goal.returns-clause-represents
returns-clause-represents c =
    represents_ok c.args.plans.now c.args.quota (length c.args.disk.regions) (device_of c.args.disk) c.open_plans.result c.requires.disk.regions c.requires.disk.ready c.open_plans.ensures.starts

pub returns-clause-memory : goal.returns-clause-memory
returns-clause-memory c = memory_lacks c.args.plans.now.union (length c.args.disk.regions) _ c.open_plans.result c.requires.disk.regions refl c.open_plans.ensures.small
