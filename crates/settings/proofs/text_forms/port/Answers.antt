use Rattle.std.proofs.Common.{arith, ap, get_or, length}
use Rattle.std.proofs.lemmas.Grind.{common_steps}
use Rattle.settings.proofs.TextLemmas.{first_of_port, port_has_digits, refused_port, read_port}
use Rattle.settings.proofs.text_forms.port.Goals as goal
use Rattle.settings.proofs.text_forms.port.Goals.{then-is_empty-via-then-is_empty, then-is_empty-via-else-is_empty+then-bytes-le48}

pub returns-then-is_empty-clause-none : goal.returns-then-is_empty-clause-none
returns-then-is_empty-clause-none c = λ n h.
    let some = port_has_digits c.args.text.now n h in
    let first = first_of_port c.args.text.now n h in
    let same_first = ap (λ xs. get_or xs 0 0) c.as_bytes-bytes.ensures.value in
    let same_length = ap length c.as_bytes-bytes.ensures.value in
    elim c.then-is_empty.branch [
      | then-is_empty-via-then-is_empty w ↦ grind (arith, common_steps)
      | then-is_empty-via-else-is_empty+then-bytes-le48 w ↦ absurd (omega arith)
    ]

pub returns-in-Ok-clause-some : goal.returns-in-Ok-clause-some
returns-in-Ok-clause-some c =
    let same_first = ap (λ xs. get_or xs 0 0) c.as_bytes-bytes.ensures.value in
    let same_length = ap length c.as_bytes-bytes.ensures.value in
    read_port c.args.text.now _ (omega arith) (grind (arith, common_steps)) c.in-Ok.ensures.value.0

pub returns-in-Err-clause-none : goal.returns-in-Err-clause-none
returns-in-Err-clause-none c = refused_port _ c.in-Err.field-0 c.in-Err.ensures.value.0
