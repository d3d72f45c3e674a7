use Rattle.promises.proofs.ExampleLemmas.{save_dropped, save_closed, save_found, save_lost}
use Rattle.promises.proofs.examples.a_lease_is_in_doubt.Goals as goal

pub returns-clause-dropped : goal.returns-clause-dropped
returns-clause-dropped c = save_dropped

pub returns-clause-closed : goal.returns-clause-closed
returns-clause-closed c = save_closed

pub returns-clause-found : goal.returns-clause-found
returns-clause-found c = save_found

pub returns-clause-lost : goal.returns-clause-lost
returns-clause-lost c = save_lost
