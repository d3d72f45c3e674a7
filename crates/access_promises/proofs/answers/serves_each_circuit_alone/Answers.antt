use Rattle.access_promises.proofs.RunLemmas.{run_exchanges}
use Rattle.access_promises.proofs.answers.serves_each_circuit_alone.Goals as goal

pub returns : goal.returns
returns c old new run = run_exchanges old new run
