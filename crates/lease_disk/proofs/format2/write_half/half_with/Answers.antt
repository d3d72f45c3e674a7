use Rattle.std.proofs.Common.{rules}
use Rattle.lease_disk.proofs.format2.write_half.half_with.Goals as goal

pub returns-clause-bytes : goal.returns-clause-bytes
returns-clause-bytes c = search rules
