use Rattle.std.proofs.Common.{arith}
use Rattle.types.proofs.Key4Lemmas.{is_key, written_over_zeros}
use Rattle.types.proofs.key4.Key4.new.Goals as goal

pub invariant_of-result : goal.invariant_of-result
invariant_of-result c =
    is_key c.args.bytes.now _ (omega arith) (omega arith) (written_over_zeros c.args.bytes.now c.copy_from_slice.new.self c.copy_from_slice.ensures.after)
