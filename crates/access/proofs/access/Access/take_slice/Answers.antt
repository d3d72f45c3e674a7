use Rattle.std.proofs.Common.{◌≡◌, ◌∙◌, ◌+◌, subst, arith, rules}
use Rattle.config.specs.Topology.{Topology}
use Rattle.access.specs.Access.{HasCarried}
use Rattle.access.specs.Pass.{SocketsFrom}
use Rattle.access.proofs.CarryLemmas.{carried_topology}
use Rattle.access.proofs.SliceLemmas.{carried_more}
use Rattle.access.proofs.access.Access.take_slice.Goals as goal

pub circuits-preserved : goal.circuits-preserved
circuits-preserved c =
    let was = c.circuits.invariant in
    let call = c.take_next-after in
    let topology = c.args.self.now.topology in
    let proto = c.args.proto in
    let from = c.args.from in
    let (n, at, first) = was.so_far in
    let (m, ahead, second) = call.ensures.carried in
    let here = subst (λ k. HasCarried (SocketsFrom topology proto k m) call.result.1 c.circuits.self call.new.self) at
    (subst (λ (t : Topology). HasCarried (SocketsFrom t proto c.circuits.next m) call.result.1 c.circuits.self call.new.self) was.same second) in
    let there : call.result.0 ≡ from + (m + n) = omega (arith, at, ahead) in
    record {
      next = search rules;
      end = was.end;
      same = carried_topology _ call.result.1 _ _ second ∙ was.same;
      few = search rules;
      ahead = search rules;
      so_far = (m + n, there, carried_more topology proto from n m c.circuits.frames call.result.1 _ _ _ first here);
    }
