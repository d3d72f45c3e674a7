use Rattle.std.proofs.Common.{length, ap, arith}
use Rattle.types.proofs.Key6Lemmas.{is_key6, written_over_zeros6}
use Rattle.types.proofs.key6.Key6.new.Goals as goal

pub invariant_of-result : goal.invariant_of-result
invariant_of-result c =
    let bytes = c.as_bytes-bytes.result.now in
    let size = ap length c.as_bytes-bytes.ensures.value in
    let within = c.as_bytes-bytes.ensures.within in
    is_key6 bytes _ (omega (arith, size, within.least)) (omega (arith, size, within.most)) (written_over_zeros6 bytes c.copy_from_slice.new.self c.copy_from_slice.ensures.after)
