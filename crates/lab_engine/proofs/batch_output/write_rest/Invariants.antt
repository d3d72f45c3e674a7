use Rattle.std.proofs.Common.{◌≡◌, map, take}
use Rattle.std.specs.Io.KnownBytes.{Appends}
use Rattle.lab_engine.specs.Output.{with_marks, part_text}
use Rattle.lab_engine.proofs.batch_output.write_rest.Given as goal

-- the writer has the parts so far
abbrev pub invariant-parts : goal.invariant-parts
invariant-parts g l = record {
  so_far : Appends (g.W.ByteWriter.contents l.fn.writer) (g.W.ByteWriter.contents l.writer) (with_marks (map part_text (take l.outcome-index l.outcomes)));
  quiet : g.W.ByteWriter.failures l.writer ≡ g.W.ByteWriter.failures l.fn.writer;
}
