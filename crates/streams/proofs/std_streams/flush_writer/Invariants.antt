use Rattle.std.specs.Io.KnownBytes.{Keeps}
use Rattle.streams.proofs.std_streams.flush_writer.Given as goal

abbrev pub invariant-turns : goal.invariant-turns
invariant-turns g l = Keeps (g.W.Write.contents l.fn.writer) (g.W.Write.contents l.writer)
