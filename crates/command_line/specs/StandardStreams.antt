-- The descriptors 0, 1 and 2, which stand for standard input, output and error.
use Rattle.std.specs.Prelude.{◌≡◌, ◌<ℤ◌, pos, IfSome}
use Rattle.std.specs.Fd.{file_raw_fd}
use Rattle.command_line.specs.declared.standard_streams.StandardStreams.{StandardStreams}

-- What was opened in place of each has its descriptor.
pub record AreInPlace (streams : StandardStreams) : Type 0 where
  pub input : IfSome streams.input (λ file. file_raw_fd file ≡ pos 0)
  pub output : IfSome streams.output (λ file. file_raw_fd file ≡ pos 1)
  pub error : IfSome streams.error (λ file. file_raw_fd file ≡ pos 2)

-- None of the three is free: the system gives what is opened the least descriptor that is, and what was opened last
-- has one above 2.
abbrev pub AreTaken : StandardStreams → Type 0
AreTaken streams = pos 2 <ℤ file_raw_fd streams.last
