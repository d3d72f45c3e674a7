use Rattle.access_promises.proofs.FewPassed.{nothing_waits}
use Rattle.access_promises.proofs.waiting.leaves_nothing_waiting.Goals as goal

pub returns : goal.returns
returns c n last now settings old new before more socket service made loses is = nothing_waits n last now settings old new before more socket service made loses is
