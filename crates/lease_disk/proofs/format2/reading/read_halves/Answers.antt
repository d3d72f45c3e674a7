use Rattle.std.proofs.Common.{rules}
use Rattle.lease_disk.proofs.Reading.{are_halves2}
use Rattle.lease_disk.proofs.format2.reading.read_halves.Goals as goal

pub returns-clause-halves : goal.returns-clause-halves
returns-clause-halves g c = λ tells two. are_halves2 ((g.D.Disk.device c.args.disk.now).region c.args.region).byte c.read.new.out two (c.in_ok-read.ensures.bytes tells) (search rules)
