use Rattle.udp.proofs.BitLemmas.{first_set}
use Rattle.udp.proofs.waiting.first_set.Goals as goal

pub returns : goal.returns
returns c =
    let h = first_set c.args.word c.args.from c.ranges.word.fits c.requires in
    record { bound = h.bound; from = h.least; unset = h.unset }
