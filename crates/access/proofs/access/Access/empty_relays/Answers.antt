use Rattle.std.proofs.Common.{◌∙◌, length, ap, refl, subst, sym, rules}
use Rattle.config.specs.Topology.{Topology}
use Rattle.access.specs.Access.{HasCarried}
use Rattle.access.specs.Pass.{IsEmptied}
use Rattle.access.proofs.CarryLemmas.{carried_again, carried_none, carried_port, carried_topology}
use Rattle.access.proofs.access.Access.empty_relays.Goals as goal

pub relays-init : goal.relays-init
relays-init c = record {
  index = search rules;
  end = search rules;
  few = search rules;
  taken = search rules;
  same = refl;
  port = refl;
  so_far = carried_none c.args.self.now _ (refl, refl);
}

pub relays-preserved : goal.relays-preserved
relays-preserved c =
    let was = c.relays.invariant in
    let next = c.empty_relay-taken in
    let topology = c.args.self.now.topology in
    let port = c.args.self.now.port in
    let moved = carried_topology _ next.result _ _ next.ensures.carried in
    let own = subst (λ (t : Topology). HasCarried (IsEmptied t port c.relays.index) next.result c.relays.self next.new.self) was.same
    (subst (λ p. HasCarried (IsEmptied c.relays.self.topology p c.relays.index) next.result c.relays.self next.new.self) was.port next.ensures.carried) in
    record {
      index = search rules;
      end = was.end ∙ sym (ap (λ (t : Topology). length t.relays) moved);
      few = was.few;
      taken = search rules;
      same = moved ∙ was.same;
      port = carried_port _ next.result _ _ next.ensures.carried ∙ was.port;
      so_far = carried_again (IsEmptied topology port) c.relays.index c.relays.taken next.result _ _ _ was.so_far own;
    }
