use Rattle.std.proofs.Common.{◌≡◌, ◌∙◌, subst, arith, rules}
use Rattle.config.specs.Topology.{Topology}
use Rattle.relay.specs.Relays.{relayed_down_in}
use Rattle.udp.specs.declared.history.Role.TheVariants as role
use Rattle.access.specs.Access.{HasCarried}
use Rattle.access.specs.Pass.{IsAnswerTaken}
use Rattle.access.specs.Turn.{IsSentDown, RelaySocket}
use Rattle.access.proofs.CarryLemmas.{carried_again, carried_port, carried_topology}
use Rattle.access.proofs.SliceLemmas.{carried_one, emptied_full}
use Rattle.access.proofs.access.Access.empty_relay.Goals as goal

pub answers-preserved : goal.answers-preserved
answers-preserved c =
    let was = c.answers.invariant in
    let call = c.take_answer in
    let topology = c.args.self.now.topology in
    let port = c.args.self.now.port in
    let index = c.args.index in
    let most = call.ensures.most in
    let some = c.if-take_answer-eq0.false in
    let one : call.result ≡ 1 = omega (arith, most, some) in
    let own = subst (λ k. HasCarried (RelaySocket topology port index) k c.answers.self call.new.self) one
    (subst (λ (t : Topology). HasCarried (RelaySocket t port index) call.result c.answers.self call.new.self) was.same
    (subst (λ p. HasCarried (RelaySocket c.answers.self.topology p index) call.result c.answers.self call.new.self) was.port call.ensures.carried)) in
    record {
      taken = search rules;
      same = carried_topology _ call.result _ _ call.ensures.carried ∙ was.same;
      port = carried_port _ call.result _ _ call.ensures.carried ∙ was.port;
      so_far = carried_again (λ i. IsAnswerTaken topology port index) c.answers.taken c.answers.taken 1 _ _ _ was.so_far
          (carried_one (role.Relay index) (λ from datagram. IsSentDown port (relayed_down_in topology index from datagram)) _ _ own);
    }

pub returns-clause-carried : goal.returns-clause-carried
returns-clause-carried c =
    let was = c.answers.invariant in
    let few = was.taken in
    let over = c.answers-test.false in
    emptied_full c.args.self.now.topology c.args.self.now.port c.args.index c.answers.taken _ _ (omega (arith, few, over)) was.so_far
