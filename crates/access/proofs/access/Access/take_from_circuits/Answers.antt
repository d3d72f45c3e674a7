use Rattle.std.proofs.Common.{◌∙◌, ℕ, length, ap, refl, subst, sym, rules}
use Rattle.config.specs.Topology.{Topology}
use Rattle.types.specs.declared.dest.Proto.TheVariants.{V4, V6}
use Rattle.access.specs.Access.{AccessValue, HasCarried}
use Rattle.access.specs.Turn.{Both, CircuitSocket, InOrder, Tries}
use Rattle.access.proofs.CarryLemmas.{carried_again, carried_none, carried_topology}
use Rattle.access.proofs.access.Access.take_from_circuits.Goals as goal

pub circuits-init : goal.circuits-init
circuits-init c = record {
  index = search rules;
  end = search rules;
  few = search rules;
  taken = search rules;
  same = ap (λ (s : AccessValue). s.topology) c.self.view_is;
  so_far = subst (λ (s : AccessValue). HasCarried (InOrder (λ k. Both (CircuitSocket c.args.self.now.topology k V4) (CircuitSocket c.args.self.now.topology k V6)) 0) 0 c.args.self.now s) (sym c.self.view_is) (carried_none c.args.self.now _ (refl, refl));
}

pub circuits-preserved : goal.circuits-preserved
circuits-preserved c =
    let was = c.circuits.invariant in
    let call = c.take_frames-taken in
    let topology = c.args.self.now.topology in
    let each : ℕ → Tries = λ k. Both (CircuitSocket topology k V4) (CircuitSocket topology k V6) in
    let after = carried_topology _ call.result _ _ call.ensures.carried in
    let these = subst (λ (t : Topology). HasCarried (Both (CircuitSocket t c.circuits.index V4) (CircuitSocket t c.circuits.index V6)) call.result c.circuits.self call.new.self) was.same call.ensures.carried in
    record {
      index = search rules;
      end = was.end ∙ sym (ap (λ (t : Topology). length t.circuits) after);
      few = was.few;
      taken = search rules;
      same = after ∙ was.same;
      so_far = carried_again each c.circuits.index c.circuits.taken call.result _ _ _ was.so_far these;
    }
