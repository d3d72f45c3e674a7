use Rattle.std.proofs.Common.{◌≡◌, ◌+◌, ◌≤◌, ◌<◌, length}
use Rattle.std.specs.Io.KnownBytes.{Keeps, prepend_known}
use Rattle.streams.specs.LineEnd.{IsCounted}
use Rattle.streams.specs.ReadAhead.{held}
use Rattle.streams.proofs.line.read_line.Given as goal

-- the bytes that are held are the front of what was left
abbrev pub invariant-reads : goal.invariant-reads
invariant-reads g l = record {
  few : l.longer ≤ 8193;
  long : l.longer ≤ length (held l.ahead);
  kept : Keeps (prepend_known (held l.fn.ahead) (g.R.ByteReader.remaining l.fn.reader)) (prepend_known (held l.ahead) (g.R.ByteReader.remaining l.reader));
  grown : length (held l.fn.ahead) + l.ahead.count ≡ length (held l.ahead) + l.fn.ahead.count;
  counted : IsCounted (g.R.ByteReader.remaining l.fn.reader) (g.R.ByteReader.remaining l.reader) l.fn.ahead.count l.ahead.count;
  below : l.ahead.count < 18446744073709551615;
  quiet : g.R.ByteReader.failures l.reader ≡ g.R.ByteReader.failures l.fn.reader;
}
