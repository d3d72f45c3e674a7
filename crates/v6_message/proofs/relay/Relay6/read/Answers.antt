use Rattle.std.proofs.Common.{arith}
use Rattle.v6_message.proofs.RelayExact.{spelled, fails}
use Rattle.v6_message.proofs.relay.Relay6.read.Goals as goal

pub returns-clause-spelled : goal.returns-clause-spelled
returns-clause-spelled c = rw c.relay_in.ensures (spelled c.args.bytes.now (λ i. omega (arith, c.type_inv.bytes i)))

pub returns-clause-fails : goal.returns-clause-fails
returns-clause-fails c = rw c.relay_in.ensures (fails c.args.bytes.now (λ i. omega (arith, c.type_inv.bytes i)))
