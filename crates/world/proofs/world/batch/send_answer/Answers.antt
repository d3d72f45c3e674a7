use Rattle.std.proofs.Common.{rules}
use Rattle.world.proofs.world.batch.send_answer.Goals as goal

pub returns-in-Ok-clause-downs : goal.returns-in-Ok-clause-downs
returns-in-Ok-clause-downs c = search rules
