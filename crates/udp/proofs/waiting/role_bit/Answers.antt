use Rattle.std.proofs.Common.{◌≡◌, sym, ap, subst, ◌∙◌}
use Rattle.udp.specs.Waiting.{bit_in, bit_of}
use Rattle.udp.proofs.waiting.role_bit.Goals as goal

pub returns-in-Circuit : goal.returns-in-Circuit
returns-in-Circuit c =
    subst (λ role. c.row_bit.result ≡ bit_of role) (sym c.in-Circuit.is)
    (c.row_bit.ensures ∙ ap (λ row. bit_in row c.index.result) (c.proto_row.ensures.row c.in-Circuit.circuit) ∙ ap (bit_in _) c.index.ensures.value)
