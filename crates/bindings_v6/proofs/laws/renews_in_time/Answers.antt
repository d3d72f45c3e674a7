use Rattle.bindings_v6.proofs.LawLemmas.{renewed}
use Rattle.bindings_v6.proofs.laws.renews_in_time.Goals as goal

pub returns : goal.returns
returns c = renewed c.args.pool c.args.clock c.args.request.now
