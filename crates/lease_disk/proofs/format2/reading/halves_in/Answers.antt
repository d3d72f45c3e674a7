use Rattle.lease_disk.proofs.Reading.{halves_among}
use Rattle.lease_disk.proofs.format2.reading.halves_in.Goals as goal

pub returns-clause-halves : goal.returns-clause-halves
returns-clause-halves c = halves_among c.args.bytes.now
