use Rattle.bindings_v6.proofs.LawLemmas.{same_unless_kept}
use Rattle.bindings_v6.proofs.laws.changes_nothing.Goals as goal

pub returns : goal.returns
returns c = same_unless_kept c.args.pool c.args.clock c.args.request.now
