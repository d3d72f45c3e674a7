use Rattle.std.proofs.Common.{◌++◌, ap, ◌∙◌}
use Rattle.std.proofs.lemmas.List.{take-replicate}
use Rattle.lease_disk.proofs.format2.write_half.push_zeros.Goals as goal

pub returns : goal.returns
returns c = c.extend.ensures ∙ ap (λ xs. c.args.half.now.items ++ xs) (take-replicate c.args.n 224 0 c.requires.few)
