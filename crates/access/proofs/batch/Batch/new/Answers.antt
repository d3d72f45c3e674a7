use Rattle.std.proofs.Common.{rules}
use Rattle.access.proofs.batch.Batch.new.Goals as goal

pub returns-clause-first : goal.returns-clause-first
returns-clause-first c = search rules
