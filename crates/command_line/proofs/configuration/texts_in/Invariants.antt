use Rattle.std.proofs.Common.{◌≡◌, length}
use Rattle.command_line.proofs.configuration.texts_in.Given as goal

abbrev pub invariant-loop-path : goal.invariant-loop-path
invariant-loop-path l = record {
  count : length l.texts.items ≡ l.path-index;
}
