use Rattle.std.proofs.Common.{arith, rules}
use Rattle.access.proofs.PassLemmas.{passed_once, set_up_then}
use Rattle.access.proofs.ServiceLemmas.{watched_more}
use Rattle.access.proofs.access.Access.serve_passes.Goals as goal

pub passes-preserved : goal.passes-preserved
passes-preserved g c =
    let was = c.passes.invariant in
    let call = c.round-now in
    let (now, passed, watched) = was.passed in
    record {
      counter = search rules;
      turns = (let before = was.turns in let one = call.ensures.turns in omega (arith, before, one));
      set_up = set_up_then _ _ _ was.set_up call.ensures.set_up;
      passed = (
        call.result,
        passed_once c.passes.counter now call.result c.args.self.now c.passes.self call.new.self passed (call.ensures.passed now),
        watched_more c.passes.counter now call.result _ _ _ watched c.after_turn.ensures,
      );
      closed = λ k is. call.ensures.closed k (was.closed k is);
    }
