use Rattle.relay.proofs.AllLemmas.{proto_of_listen}
use Rattle.relay.proofs.laws.source_decides.Goals as goal

pub returns : goal.returns
returns c = proto_of_listen
