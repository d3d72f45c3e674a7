-- What shows of the next line of a text, which is read ahead and not yet consumed. Only contracts between crates cite these.
use Rattle.std.specs.Prelude.{ℕ, ◌+◌, ◌<◌, ◌≤◌, List, length, take, Option, IfSome}
use Rattle.config.specs.Plans.{PlansValue}
use Rattle.lab_text.specs.declared.parse_line.Parsed.{Parsed}
use Rattle.streams.specs.LineEnd.{IsLineEnd, feeds_of, len_of}
use Rattle.streams.specs.ReadAhead.{held}
use Rattle.streams.specs.declared.line.LineEnd.{LineEnd}
use Rattle.streams.specs.declared.read_ahead.ReadAhead.{ReadAhead}
use Rattle.lab_engine.specs.declared.buffers.Buffers.{Buffers}
use Rattle.lab_engine.specs.declared.next_line.NextLine.{NextLine}
use Rattle.lab_engine.specs.Progress.{IsParsedIn}

-- The first line that is held, which ends so, is short enough and all held, and says this, where it was parsed.
pub record IsHeld (plans : PlansValue) (buffers : Buffers) (bytes : List ℕ) (end : LineEnd) (known : Option Parsed) : Type 0 where
  pub within : len_of end ≤ 8192
  pub inside : len_of end + feeds_of end ≤ length bytes
  pub parsed : IfSome known (IsParsedIn plans buffers (take (len_of end) bytes))

-- This is the next line, where this is left to read. Fewer than 2^64 - 1 bytes were read, each earlier line and what is held among them.
pub record IsNextLine (plans : PlansValue) (buffers : Buffers) (ahead : ReadAhead) (left : Option (List ℕ)) (next : NextLine) : Type 0 where
  pub end : IsLineEnd (held ahead) left next.end
  pub line : IsHeld plans buffers (held ahead) next.end next.parsed
  pub lines : next.earlier + length (held ahead) ≤ ahead.count
  pub below : ahead.count < 18446744073709551615
