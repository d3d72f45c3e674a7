use Rattle.std.proofs.Common.{rules}
use Rattle.lease_disk.proofs.format2.steps.save_step.Goals as goal

pub returns : goal.returns
returns c = search rules
