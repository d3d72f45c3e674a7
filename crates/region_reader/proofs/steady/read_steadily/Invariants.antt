use Rattle.std.proofs.Common.{◌≡◌}
use Rattle.region_reader.proofs.SteadyLemmas.{AreRead}
use Rattle.region_reader.proofs.steady.read_steadily.Given as goal

abbrev pub invariant-readings : goal.invariant-readings
invariant-readings g l = AreRead l.fn.region l.counter l.out (g.R.RegionReader.readings l.fn.reader) (g.R.RegionReader.readings l.reader) × (g.R.RegionReader.failures l.reader ≡ g.R.RegionReader.failures l.fn.reader)
