use Rattle.std.proofs.Common.{arith}
use Rattle.v4_message.proofs.Exact.{spelled, fails}
use Rattle.v4_message.proofs.message.Message.read.Goals as goal

pub returns-clause-spelled : goal.returns-clause-spelled
returns-clause-spelled c = rw c.message_in.ensures (spelled c.args.bytes.now (record { each = λ i. omega (arith, c.type_inv.bytes i) }))

pub returns-clause-fails : goal.returns-clause-fails
returns-clause-fails c = rw c.message_in.ensures (fails c.args.bytes.now (record { each = λ i. omega (arith, c.type_inv.bytes i) }))
