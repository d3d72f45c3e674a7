use Rattle.std.proofs.Common.{arith}
use Rattle.v6_message.proofs.MessageExact.{spelled, fails}
use Rattle.v6_message.proofs.message.Message6.read.Goals as goal

pub returns-clause-spelled : goal.returns-clause-spelled
returns-clause-spelled c = rw c.message_in.ensures (spelled c.args.bytes.now (λ i. omega (arith, c.type_inv.bytes i)))

pub returns-clause-fails : goal.returns-clause-fails
returns-clause-fails c = rw c.message_in.ensures (fails c.args.bytes.now (λ i. omega (arith, c.type_inv.bytes i)))
