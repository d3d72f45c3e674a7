use Rattle.std.proofs.Common.{sym, ◌∙◌, arith}
use Rattle.v6_message.specs.declared.scan.Sender.TheVariants.{Client}
use Rattle.v6_message.proofs.Lists.{no_err}
use Rattle.v6_message.proofs.MessageExact.{never_none, known}
use Rattle.v6_message.proofs.message.message_in.Goals as goal

pub unreachable-requires : goal.unreachable-requires
unreachable-requires c = no_err Client _ _ (sym c.in-None.ensures) c.in_default.ensures.exact

pub unreachable-requires-in_default-read : goal.unreachable-requires-in_default-read
unreachable-requires-in_default-read c = never_none _ _ _ (sym c.in-None.ensures) c.in-Ok.ensures.exact (sym c.in-Some.ensures.value) (sym c.in_default-read.is ∙ c.read-2.ensures)

pub invariant_of-result : goal.invariant_of-result
invariant_of-result c =
    known c.args.bytes.now c.split_at.result.1.now _ _ _ (λ i. omega (arith, c.type_inv.bytes i)) (omega arith) c.split_at.ensures.back (sym c.in-None.ensures) c.in-Ok.ensures.exact (sym c.has_at_most.ensures ∙ c.if-not-has_at_most.false) (sym c.in-Some.ensures.value) (sym c.has_few_addresses.ensures ∙ c.if-not-has_few_addresses.false) c.in-Some-read.ensures
