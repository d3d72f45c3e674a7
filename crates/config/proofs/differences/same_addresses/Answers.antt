use Rattle.std.proofs.lemmas.Slice.Eq.{slice_eq-Decides}
use Rattle.config.proofs.DifferenceLemmas.{address_decides}
use Rattle.config.proofs.differences.same_addresses.Goals as goal

pub returns : goal.returns
returns c = slice_eq-Decides address_decides c.args.one.now c.args.other.now c.eq.result c.eq.ensures
