use Rattle.std.proofs.Common.{◌≡◌, ℕ, ◌+◌, ◌≤◌, ◌<◌, false, length}
use Rattle.std.specs.Prelude.{⊤}
use Rattle.std.specs.Io.KnownBytes.{prepend_known}
use Rattle.lease_disk.specs.Model.{device_of}
use Rattle.lab_engine.specs.Preparations.{PreparedSoFar, StaysReady}
use Rattle.streams.specs.LineEnd.{IsCounted}
use Rattle.streams.specs.ReadAhead.{held}
use Rattle.lab_engine.proofs.preparations.prepare_all.Given as goal

abbrev pub invariant-lines : goal.invariant-lines
invariant-lines g l = record {
  disk : StaysReady l.fn.disk l.disk;
  lines : l.earlier + length (held l.ahead) ≤ l.ahead.count;
  below : l.ahead.count < 18446744073709551615;
  quiet : g.R.ByteReader.failures l.reader ≡ g.R.ByteReader.failures l.fn.reader;
  counted : IsCounted (g.R.ByteReader.remaining l.fn.reader) (g.R.ByteReader.remaining l.reader) 0 l.ahead.count;
  so_far :
      (quota : ℕ)
      → PreparedSoFar l.fn.plans quota (l.earlier + 1) false (g.R.ByteReader.remaining l.fn.reader) (prepend_known (held l.ahead) (g.R.ByteReader.remaining l.reader)) (device_of l.disk) (λ rest. ⊤);
}
