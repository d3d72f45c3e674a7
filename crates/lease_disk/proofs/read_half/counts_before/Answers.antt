use Rattle.std.proofs.Common.{rules}
use Rattle.lease_disk.proofs.read_half.counts_before.Goals as goal

pub returns-then-opposite_sequence-le2 : goal.returns-then-opposite_sequence-le2
returns-then-opposite_sequence-le2 c = search rules

pub returns-else-opposite_sequence-le2 : goal.returns-else-opposite_sequence-le2
returns-else-opposite_sequence-le2 c = search rules
