use Rattle.relay.proofs.AllLemmas.{only_one}
use Rattle.relay.proofs.laws.only_circuit.Goals as goal

pub returns : goal.returns
returns c = only_one
