use Rattle.std.proofs.Common.{◌≡◌}
use Rattle.v6_message.specs.Reading.{are_long}
use Rattle.v6_message.proofs.ia.are_long.Given as goal

abbrev pub invariant-row : goal.invariant-row
invariant-row l = are_long l.code-iterator ≡ are_long l.options
