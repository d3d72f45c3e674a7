use Rattle.relay.proofs.AllLemmas.{its_circuit4}
use Rattle.relay.proofs.laws.named_circuit.Goals as goal

pub returns : goal.returns
returns c = its_circuit4
