use Rattle.std.proofs.Common.{◌≡◌, length}
use Rattle.command_line.proofs.configuration.lend.Given as goal

abbrev pub invariant-loop-text : goal.invariant-loop-text
invariant-loop-text l = record {
  count : length l.lent.items ≡ l.text-index;
}
