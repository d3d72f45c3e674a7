use Rattle.std.proofs.Common.{arith}
use Rattle.std.proofs.lemmas.List.{same_lists}
use Rattle.config.proofs.differences.relay.Goals as goal

pub returns-clause-none : goal.returns-clause-none
returns-clause-none c = same_lists c.args.other.now c.args.first.now c.requires (λ k d inside. c.loop-index.invariant k d (omega arith))
