use Rattle.bindings_v6.proofs.LawLemmas.{own_granted}
use Rattle.bindings_v6.proofs.laws.grants_its_own.Goals as goal

pub returns : goal.returns
returns c = own_granted c.args.pool c.lease-lease.ensures.within c.args.clock c.args.request.now
