use Rattle.std.proofs.Common.{◌≡◌, ℕ, ◌+◌, ◌≤◌, ◌<◌, List, length, take}
use Rattle.std.specs.Prelude.{Option, IfSome}
use Rattle.std.specs.Io.KnownBytes.{prepend_known}
use Rattle.lab_engine.specs.Progress.{KnowsPlans, IsParsedIn, SoFar}
use Rattle.config.specs.Plans.{PlansValue}
use Rattle.lab_engine.specs.Lab.{Output}
use Rattle.streams.specs.LineEnd.{Fits, IsCounted, IsLineEnd, len_of, feeds_of}
use Rattle.streams.specs.ReadAhead.{held}
use Rattle.lab_engine.proofs.engine.apply_lines.Given as goal

abbrev pub invariant-lines : goal.invariant-lines
invariant-lines g l = record {
  plans_known : (set : PlansValue) → KnowsPlans set (g.M.Machine.topology l.fn.machine) → KnowsPlans set (g.M.Machine.topology l.machine);
  end : IsLineEnd (held l.ahead) (g.R.ByteReader.remaining l.reader) l.end;
  within : len_of l.end ≤ 8192;
  inside : len_of l.end + feeds_of l.end ≤ length (held l.ahead);
  known : IfSome l.known (IsParsedIn l.fn.plans l.buffers (take (len_of l.end) (held l.ahead)));
  lines : l.earlier + length (held l.ahead) ≤ l.ahead.count;
  below : l.ahead.count < 18446744073709551615;
  reader_quiet : g.R.ByteReader.failures l.reader ≡ g.R.ByteReader.failures l.fn.reader;
  writer_quiet : g.W.ByteWriter.failures l.writer ≡ g.W.ByteWriter.failures l.fn.writer;
  counted : IsCounted (g.R.ByteReader.remaining l.fn.reader) (g.R.ByteReader.remaining l.reader) l.fn.ahead.count l.ahead.count;
  so_far :
      (quota : ℕ) (output : List ℕ → Output) (given holds : Option (List ℕ))
      → SoFar l.fn.plans quota (l.fn.next.earlier + 1) output given (prepend_known (held l.fn.ahead) (g.R.ByteReader.remaining l.fn.reader)) holds (g.W.ByteWriter.contents l.fn.writer) (g.M.Machine.states l.fn.machine) (Fits (held l.fn.ahead) l.fn.next.end)
      → KnowsPlans l.fn.plans (g.M.Machine.topology l.fn.machine)
      → SoFar l.fn.plans quota (l.earlier + 1) output given (prepend_known (held l.ahead) (g.R.ByteReader.remaining l.reader)) holds (g.W.ByteWriter.contents l.writer) (g.M.Machine.states l.machine) (Fits (held l.ahead) l.end);
}
