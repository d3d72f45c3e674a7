use Rattle.promises.proofs.ExampleLemmas.{clock_stays}
use Rattle.promises.proofs.examples.clocks_never_go_back.Goals as goal

pub returns : goal.returns
returns c = clock_stays
