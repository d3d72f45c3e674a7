use Rattle.streams.proofs.AheadLemmas.{slice_range_advance}
use Rattle.streams.proofs.read_ahead.ReadAhead.consume.Goals as goal

pub returns-clause-held : goal.returns-clause-held
returns-clause-held c = let w = c.args.self.now in slice_range_advance w.bytes w.start w.end c.args.amount c.requires
