use Rattle.std.proofs.Common.{◌≡◌, ◌∙◌, ◌<◌, length, sym, ap, subst, arith, rules}
use Rattle.std.specs.Prelude.{Some, None}
use Rattle.config.specs.Topology.{Topology}
use Rattle.circuit_server.specs.Ticked.{server_state}
use Rattle.access.specs.Service.{IsReopenedAlone}
use Rattle.access.proofs.ServiceLemmas.{all_reopened, element_at, reopened_more, within_circuits}
use Rattle.access.proofs.access.Access.reopen_closed.Goals as goal

pub circuits-preserved : goal.circuits-preserved
circuits-preserved g c =
    let was = c.circuits.invariant in
    let call = c.reopen_if_closed in
    let middle = c.circuits.self in
    let at : c.in-Some.circuit ≡ c.circuits.index = c.in-Some.ensures.value in
    let size : length middle.server.topology.circuits ≡ length c.args.self.now.server.topology.circuits = ap (λ (t : Topology). length t.circuits) was.so_far.served in
    let test = c.circuits-test.true in
    let end = was.end in
    let within : c.circuits.index < length middle.server.topology.circuits = omega (arith, size, test, end) in
    let (part, here) = element_at middle.server.topology.circuits c.circuits.index within in
    record {
      index = search rules;
      end = was.end;
      so_far = reopened_more c.circuits.index part c.args.self.now middle call.new.self was.so_far here
          (λ o is. call.ensures.open o (subst (λ k. server_state middle.server.states k ≡ Some o) (sym at) is))
          (λ is. subst (λ k. IsReopenedAlone k middle call.new.self) at (call.ensures.closed (subst (λ k. server_state middle.server.states k ≡ None) (sym at) is)));
      watched = call.ensures.watched ∙ was.watched;
    }

pub returns-clause-reopened : goal.returns-clause-reopened
returns-clause-reopened g c =
    let was = c.circuits.invariant in
    let test = c.circuits-test.false in
    let end = was.end in
    all_reopened c.circuits.index c.args.self.now c.circuits.self
    (λ k part less there. let within = within_circuits c.args.self.now.server.topology.circuits k part there in omega (arith, within, test, end)) was.so_far
