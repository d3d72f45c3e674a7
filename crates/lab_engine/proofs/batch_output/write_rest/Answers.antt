use Rattle.lab_engine.proofs.BatchOutputLemmas.{front_of_rest}
use Rattle.lab_engine.proofs.batch_output.write_rest.Goals as goal

pub returns-in-Err-clause-err : goal.returns-in-Err-clause-err
returns-in-Err-clause-err g c = front_of_rest _ _ _ c.args.outcomes.now c.parts.outcome-index _ c.parts-test.true c.parts.invariant.so_far c.in-Err.ensures.err
