use Rattle.std.proofs.lemmas.Grind.{common_steps}
use Rattle.std.proofs.Common.{arith, ap, length}
use Rattle.std.proofs.lemmas.List.{take_rest, length-drop}
use Rattle.streams.proofs.WriteLemmas.{front_at, front_here, appends_next}
use Rattle.streams.proofs.std_streams.write_bytes.Goals as goal

pub returns : goal.returns
returns g c = record { ok = tt; err = front_at _ _ c.args.bytes.now c.turns.done c.turns.invariant.so_far }

pub returns-in-Err-clause-err : goal.returns-in-Err-clause-err
returns-in-Err-clause-err g c = front_here _ _ _ c.args.bytes.now c.turns.done c.turns.invariant.so_far c.in-Err.ensures.err

pub turns-preserved : goal.turns-preserved
turns-preserved g c = record {
  within = omega (arith, ap length (take_rest c.args.bytes.now c.turns.done), length-drop c.turns.done c.args.bytes.now, c.in-Ok.ensures.bound);
  so_far = appends_next _ _ _ c.args.bytes.now c.turns.done c.in-Ok.n c.turns.invariant.so_far c.in-Ok.ensures.ok;
}

pub returns-then-done-bytes-clause-ok : goal.returns-then-done-bytes-clause-ok
returns-then-done-bytes-clause-ok c = grind (arith, common_steps)
