use Rattle.std.proofs.Common.{arith}
use Rattle.v6_options.proofs.Exact.{spelled, fails}
use Rattle.v6_options.proofs.options.Options.read.Goals as goal

pub returns-then-is_cut-clause-spelled : goal.returns-then-is_cut-clause-spelled
returns-then-is_cut-clause-spelled c = rw (← c.if-is_cut.ensures) at (spelled c.args.bytes.now (λ i. omega (arith, c.type_inv.bytes i)))

pub returns-then-is_cut-clause-fails : goal.returns-then-is_cut-clause-fails
returns-then-is_cut-clause-fails c = rw (← c.if-is_cut.ensures) at (fails c.args.bytes.now (λ i. omega (arith, c.type_inv.bytes i)))

pub returns-clause-spelled : goal.returns-clause-spelled
returns-clause-spelled c = rw (← c.if-is_cut.ensures) at (spelled c.args.bytes.now (λ i. omega (arith, c.type_inv.bytes i)))

pub returns-clause-fails : goal.returns-clause-fails
returns-clause-fails c = rw (← c.if-is_cut.ensures) at (fails c.args.bytes.now (λ i. omega (arith, c.type_inv.bytes i)))
