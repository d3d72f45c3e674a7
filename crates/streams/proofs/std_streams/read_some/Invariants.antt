use Rattle.std.specs.Io.KnownBytes.{Keeps}
use Rattle.streams.proofs.std_streams.read_some.Given as goal

abbrev pub invariant-turns : goal.invariant-turns
invariant-turns g l = Keeps (g.R.Read.remaining l.fn.reader) (g.R.Read.remaining l.reader)
