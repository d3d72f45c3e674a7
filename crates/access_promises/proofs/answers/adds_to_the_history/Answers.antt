use Rattle.std.proofs.Common.{◌∙◌, ◌++◌, sym, ap}
use Rattle.access_promises.proofs.RunLemmas.{added_is, run_ran}
use Rattle.access_promises.proofs.answers.adds_to_the_history.Goals as goal

pub returns : goal.returns
returns x old new run =
    let ran = run_ran old new run in
    ran.history ∙ ap (λ es. old.history ++ es) (sym (added_is old.topology old.port old new ran))
