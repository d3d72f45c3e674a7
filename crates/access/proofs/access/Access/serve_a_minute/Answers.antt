use Rattle.std.proofs.Common.{◌≡◌, ◌≤◌, ◌+◌, arith, rules}
use Rattle.access.proofs.PassLemmas.{set_up_then}
use Rattle.access.proofs.ServiceLemmas.{full_if, stretch_begins, stretch_more, watched_count}
use Rattle.access.proofs.access.Access.serve_a_minute.Goals as goal

pub passes-init : goal.passes-init
passes-init g c =
    let first = c.round_watched-first in
    record {
      some = omega arith;
      most = c.requires;
      served = (0, stretch_begins first.result c.args.self.now first.new.self first.ensures.passed, λ never. absurd cc);
      turns = first.ensures.turns;
      set_up = first.ensures.set_up;
      watched = watched_count first.result (g.W.Watch.watched c.args.watch.now) (g.W.Watch.watched first.new.watch) first.ensures.watched;
    }

pub passes-preserved : goal.passes-preserved
passes-preserved g c =
    let was = c.passes.invariant in
    let call = c.round_watched-now in
    let (last, stretch, full) = was.served in
    record {
      some = search rules;
      most = search rules;
      served = (
        call.result,
        stretch_more c.passes.made c.round_watched-first.result last call.result c.args.self.now c.passes.self call.new.self stretch call.ensures.passed,
        full_if _ _ c.round_watched-first.result call.result c.seconds.ensures.value c.seconds-in-passes.ensures.value,
      );
      turns = (let before = was.turns in let one = call.ensures.turns in omega (arith, before, one));
      set_up = set_up_then _ _ _ was.set_up call.ensures.set_up;
      watched = (let before = was.watched in let one = watched_count call.result (g.W.Watch.watched c.passes.watch) (g.W.Watch.watched call.new.watch) call.ensures.watched in omega (arith, before, one));
    }
