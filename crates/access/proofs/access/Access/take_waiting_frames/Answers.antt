use Rattle.std.proofs.Common.{subst}
use Rattle.config.specs.Topology.{Topology}
use Rattle.types.specs.declared.dest.Proto.TheVariants.{V4, V6}
use Rattle.access.specs.Access.{HasCarried}
use Rattle.access.specs.Turn.{CircuitSocket}
use Rattle.access.proofs.CarryLemmas.{carried_then, carried_topology}
use Rattle.access.proofs.access.Access.take_waiting_frames.Goals as goal

pub returns-clause-carried : goal.returns-clause-carried
returns-clause-carried c =
    let first = c.take_frame-taken in
    let second = c.take_frame in
    let topology = c.args.self.now.topology in
    let six = subst (λ (t : Topology). HasCarried (CircuitSocket t c.args.index V6) second.result first.new.self second.new.self) (carried_topology _ first.result _ _ first.ensures.carried) second.ensures.carried in
    carried_then (CircuitSocket topology c.args.index V4) (CircuitSocket topology c.args.index V6) first.result second.result _ _ _ first.ensures.carried six
