use Rattle.relay.proofs.AllLemmas.{its_circuit6}
use Rattle.relay.proofs.laws.named_circuit6.Goals as goal

pub returns : goal.returns
returns c = its_circuit6
