use Rattle.bindings_v4.proofs.LawLemmas.{only_offers}
use Rattle.bindings_v4.proofs.laws.changes_offers_alone.Goals as goal

pub returns : goal.returns
returns c = only_offers c.args.pool c.args.clock c.args.request.now
