use Rattle.std.proofs.Common.{◌≡◌, ◌∙◌, ◌+◌, sym, ap, subst, arith, rules}
use Rattle.std.specs.Prelude.{Some, None, slice_get}
use Rattle.dispatch.specs.ServerValue.{books_in}
use Rattle.access.specs.Access.{AccessValue, HasServedTurns, StayClosed, StaysSetUp}
use Rattle.access.proofs.ServiceLemmas.{watched_more, watched_none}
use Rattle.access.proofs.TurnLemmas.{served_once}
use Rattle.access.proofs.access.Access.serve.Goals as goal
use Rattle.access.proofs.access.Access.serve.Goals.{then-turn-eq0+then-pause-gt0, else-turn-eq0}

pub turns-preserved : goal.turns-preserved
turns-preserved g c =
    let was = c.turns.invariant in
    let after = c.turn.ensures in
    let same : c.if-turn-eq0.self ≡ c.turn.new.self = elim c.if-turn-eq0.branch [ then-turn-eq0+then-pause-gt0 w ↦ w.self-is ∙ c.self-in-turns.view_is | else-turn-eq0 w ↦ w.self-is ] in
    let back = λ (P : AccessValue → Type 0) (holds : P c.turn.new.self). subst P (sym same) holds in
    record {
      counter = search rules;
      turns = back (λ s. s.turns ≡ c.args.self.now.turns + (c.turns.counter + 1)) (let before = ap (λ (s : AccessValue). s.turns) c.self.view_is ∙ was.turns in let one = after.turns in omega (arith, before, one));
      set_up =
          back (StaysSetUp c.args.self.now)
          (record {
            topology = after.set_up.topology ∙ (ap (λ (s : AccessValue). s.topology) c.self.view_is ∙ was.set_up.topology);
            served = after.set_up.served ∙ (ap (λ (s : AccessValue). s.server.topology) c.self.view_is ∙ was.set_up.served);
            regions = after.set_up.regions ∙ (ap (λ (s : AccessValue). s.disk.regions) c.self.view_is ∙ was.set_up.regions);
            formats = after.set_up.formats ∙ (ap (λ (s : AccessValue). s.formats) c.self.view_is ∙ was.set_up.formats);
            port = after.set_up.port ∙ (ap (λ (s : AccessValue). s.port) c.self.view_is ∙ was.set_up.port);
            batch = after.set_up.batch ∙ (ap (λ (s : AccessValue). s.batch) c.self.view_is ∙ was.set_up.batch);
          });
      turned = back (HasServedTurns (c.turns.counter + 1) c.moment-now.result c.args.self.now)
          (served_once c.turns.counter c.turns.now c.moment-now.result c.turn.result c.args.self.now c.turns.self _ c.turn.new.self _ was.turned c.self.view_is c.moment-now.ensures.read after.turned);
      watched = watched_more c.turns.counter c.turns.now c.moment-now.result _ _ _ was.watched c.after_turn.ensures;
      closed = back (λ s. StayClosed c.args.self.now.server s.server)
          (λ k closed. after.closed k (subst (λ (s : AccessValue). slice_get (books_in s.server) k ≡ Some None) (sym c.self.view_is) (was.closed k closed)));
    }
