use Rattle.std.proofs.Common.{subst, ◌<◌}
use Rattle.lease_disk.proofs.Fresh.{new_clean}
use Rattle.lease_disk.proofs.model_disk.ModelDisk.new.Goals as goal

pub returns-clause-synced : goal.returns-clause-synced
returns-clause-synced c = new_clean c.regions.stored.items (λ q within. c.regions.invariant.formatted q (subst (λ n. q < n) c.regions.invariant.count within))
