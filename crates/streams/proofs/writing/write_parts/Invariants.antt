use Rattle.std.proofs.Common.{◌≡◌, take}
use Rattle.std.specs.Io.KnownBytes.{Appends}
use Rattle.streams.specs.Writing.{concatenation}
use Rattle.streams.proofs.writing.write_parts.Given as goal

-- the writer has the parts so far
abbrev pub invariant-parts : goal.invariant-parts
invariant-parts g l = record {
  so_far : Appends (g.W.ByteWriter.contents l.fn.writer) (g.W.ByteWriter.contents l.writer) (concatenation (take l.part-index l.parts));
  quiet : g.W.ByteWriter.failures l.writer ≡ g.W.ByteWriter.failures l.fn.writer;
}
