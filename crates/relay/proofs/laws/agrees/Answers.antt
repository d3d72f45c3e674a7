use Rattle.relay.proofs.AllLemmas.{own_frame}
use Rattle.relay.proofs.laws.agrees.Goals as goal

pub returns : goal.returns
returns c = own_frame
