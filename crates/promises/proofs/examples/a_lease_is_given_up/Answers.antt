use Rattle.promises.proofs.ExampleLemmas.{decline_saved, release_saved}
use Rattle.promises.proofs.examples.a_lease_is_given_up.Goals as goal

pub returns-clause-release : goal.returns-clause-release
returns-clause-release c = release_saved

pub returns-clause-decline : goal.returns-clause-decline
returns-clause-decline c = decline_saved
