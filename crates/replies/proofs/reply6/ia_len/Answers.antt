use Rattle.std.proofs.Common.{arith}
use Rattle.replies.proofs.ReadBack6.{given_length}
use Rattle.replies.proofs.reply6.ia_len.Goals as goal

pub returns-in-Given-clause-value : goal.returns-in-Given-clause-value
returns-in-Given-clause-value c = λ lease iaid is.
    let its = rw c.in-Given.is at is in
    rw c.in-Given.is (omega (arith, given_length lease iaid c.in-Given.zeroed.items c.in-Given.field-1 its.1 its.2, c.addresses_len.ensures.value))
