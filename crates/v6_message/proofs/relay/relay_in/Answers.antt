use Rattle.std.proofs.Common.{sym, arith}
use Rattle.v6_message.specs.declared.scan.Sender.TheVariants.{Relay}
use Rattle.v6_message.proofs.Lists.{no_err}
use Rattle.v6_message.proofs.RelayExact.{known}
use Rattle.v6_message.proofs.relay.relay_in.Goals as goal

pub unreachable-requires : goal.unreachable-requires
unreachable-requires c = no_err Relay _ _ (sym c.in-None.ensures) c.in-Err.ensures.exact

pub invariant_of-result : goal.invariant_of-result
invariant_of-result c = known c.args.bytes.now c.split_at.result.1.now _ (λ i. omega (arith, c.type_inv.bytes i)) (omega arith) c.split_at.ensures.back (sym c.in-None.ensures) c.in-Ok.ensures.exact
