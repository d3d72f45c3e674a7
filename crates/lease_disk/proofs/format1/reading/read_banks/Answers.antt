use Rattle.std.proofs.Common.{rules}
use Rattle.lease_disk.proofs.Reading.{are_halves1, read_places}
use Rattle.lease_disk.proofs.format1.reading.read_banks.Goals as goal

pub returns-clause-halves : goal.returns-clause-halves
returns-clause-halves g c = λ tells one.
    are_halves1 ((g.D.Disk.device c.args.disk.now).region c.args.region).byte c.halves_of_banks.result one
    (read_places ((g.D.Disk.device c.args.disk.now).region c.args.region) c.read.new.out c.halves_of_banks.result (search rules) (c.in_ok-read.ensures.bytes tells) c.halves_of_banks.ensures)
