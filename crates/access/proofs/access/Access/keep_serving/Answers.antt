use Rattle.std.proofs.Common.{◌≡◌, ◌+◌, ap, arith, rules}
use Rattle.access.specs.Access.{AccessValue}
use Rattle.access.specs.Service.{Watched}
use Rattle.access.proofs.PassLemmas.{set_up_then}
use Rattle.access.proofs.ServiceLemmas.{kept_with_rest, kept_without, minute_of, minutes_more, no_minutes, passes_of, set_up_reopened, set_up_same}
use Rattle.access.proofs.access.Access.keep_serving.Goals as goal

pub minutes-init : goal.minutes-init
minutes-init g c = record {
  most = omega arith;
  served = no_minutes c.args.self.now;
  turns = omega arith;
  set_up = set_up_same c.args.self.now;
  watched = omega arith;
}

pub returns-then-not-is_full-clause-served : goal.returns-then-not-is_full-clause-served
returns-then-not-is_full-clause-served g c =
    let call = c.serve_a_minute-more in
    let (first, last, stretch, full) = call.ensures.served in
    let (now, passes) = passes_of call.result.0 first last c.minutes.self call.new.self stretch in
    kept_with_rest c.minutes.made call.result.0 now c.args.self.now c.minutes.self call.new.self c.minutes.invariant.served passes

pub minutes-preserved : goal.minutes-preserved
minutes-preserved g c =
    let was = c.minutes.invariant in
    let call = c.serve_a_minute-more in
    let again = c.reopen_closed in
    let (first, last, stretch, full) = call.ensures.served in
    let minute = minute_of call.result.0 first last c.minutes.self call.new.self again.new.self stretch (full (search rules)) again.ensures.reopened in
    record {
      most = search rules;
      served = minutes_more c.minutes.made call.result.0 c.args.self.now c.minutes.self again.new.self was.served minute;
      turns = (let before = was.turns in let one = call.ensures.turns in let same = ap (λ (s : AccessValue). s.turns) again.ensures.reopened.rest in omega (arith, before, one, same));
      set_up = set_up_then _ _ _ was.set_up (set_up_then _ _ _ call.ensures.set_up (set_up_reopened _ _ again.ensures.reopened));
      watched = (let before = was.watched in let one = call.ensures.watched in let same = ap (λ (w : Watched). w.rounds) again.ensures.watched in omega (arith, before, one, same));
    }

pub returns-clause-served : goal.returns-clause-served
returns-clause-served g c = kept_without c.minutes.made c.args.self.now c.minutes.self c.minutes.invariant.served
