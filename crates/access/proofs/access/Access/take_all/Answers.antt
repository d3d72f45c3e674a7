use Rattle.std.proofs.Common.{◌≡◌, ◌∙◌, ◌+◌, ◌<◌, ◌≤◌, length, sym, ap, subst}
use Rattle.std.specs.Prelude.{◌⊎◌}
use Rattle.config.specs.Topology.{Topology}
use Rattle.access.proofs.PassLemmas.{keeps_slice, one_so_far}
use Rattle.access.proofs.access.Access.take_all.Goals as goal

pub slices-preserved : goal.slices-preserved
slices-preserved c =
    let was = c.slices.invariant in
    let call = c.slice-after in
    let now = c.args.now in
    let proto = c.args.proto in
    let (circuits, at, slice) = call.ensures.slice in
    let same : length c.slices.self.topology.circuits ≡ length c.args.self.now.topology.circuits = ap (λ (t : Topology). length t.circuits) was.same in
    let far = subst (λ k. (call.result.0 ≡ k) ⊎ (c.slices.next + 16 ≤ call.result.0)) same call.ensures.far in
    let within = subst (λ k. c.slices.next < k) was.end c.slices-test.true in
    record {
      next = subst (λ k. call.result.0 ≤ k) (same ∙ sym was.end) call.ensures.end;
      end = was.end;
      same = (keeps_slice now proto c.slices.next circuits call.result.1 _ _ slice).set_up.topology ∙ was.same;
      so_far = one_so_far now proto c.slices.next circuits call.result.0 c.slices.taken call.result.1 _ _ _ was.so_far within at slice call.ensures.most far call.ensures.ahead;
    }
