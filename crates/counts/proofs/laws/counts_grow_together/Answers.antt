use Rattle.counts.proofs.CountLemmas.{grow_together}
use Rattle.counts.proofs.laws.counts_grow_together.Goals as goal

pub returns : goal.returns
returns c = grow_together
