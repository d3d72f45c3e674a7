use Rattle.std.proofs.Common.{arith}
use Rattle.types.specs.Addr.{number4}
use Rattle.config.specs.Rules.{IsHost}
use Rattle.config.proofs.PoolLemmas.{at_slots}
use Rattle.config.proofs.subnets.has_host_pool.Goals as goal

pub returns-clause-all : goal.returns-clause-all
returns-clause-all c = λ n h.
    let circuit = c.args.circuit.now in
    at_slots (IsHost circuit.prefix4 (number4 circuit.gateway4)) (number4 circuit.first4) circuit.count4 (λ k inside. c.loop-slot.invariant k (omega arith)) n h.from h.below
