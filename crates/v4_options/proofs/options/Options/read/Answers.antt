use Rattle.v4_options.proofs.Exact.{spelled, fails}
use Rattle.v4_options.proofs.options.Options.read.Goals as goal

pub returns-clause-spelled : goal.returns-clause-spelled
returns-clause-spelled c = rw c.read_list.ensures (spelled c.args.bytes.now)

pub returns-clause-fails : goal.returns-clause-fails
returns-clause-fails c = rw c.read_list.ensures (fails c.args.bytes.now)
