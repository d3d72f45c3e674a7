use Rattle.bindings_v6.proofs.LawLemmas.{others_stay}
use Rattle.bindings_v6.proofs.laws.keeps_others.Goals as goal

pub returns : goal.returns
returns c = others_stay c.args.pool c.args.clock c.args.request.now
