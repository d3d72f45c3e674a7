-- How the code writes an entry: as a number, which is the deadline, or NEVER. No public clause says anything of it.
use Rattle.std.specs.Prelude.{ℕ, nat_lt, if◌then◌else◌, Option, Some, None}
use Rattle.timers.specs.declared.deadlines.TheConstants.{NEVER}

abbrev pub entry_of : ℕ → Option ℕ
entry_of number = if nat_lt number NEVER then Some number else None
