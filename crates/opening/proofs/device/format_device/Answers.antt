use Rattle.std.proofs.Common.{rules}
use Rattle.opening.proofs.device.format_device.Goals as goal

pub returns-clause-writes : goal.returns-clause-writes
returns-clause-writes c = search rules

pub returns-clause-none : goal.returns-clause-none
returns-clause-none c = search rules
