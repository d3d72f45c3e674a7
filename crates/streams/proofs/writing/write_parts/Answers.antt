use Rattle.streams.proofs.WriteLemmas.{front_of_parts}
use Rattle.streams.proofs.writing.write_parts.Goals as goal

pub returns-in-Err-clause-err : goal.returns-in-Err-clause-err
returns-in-Err-clause-err g c = front_of_parts _ _ _ c.args.parts.now c.parts.part-index _ c.parts-test.true c.parts.invariant.so_far c.in-Err.ensures.err
