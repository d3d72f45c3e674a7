use Rattle.std.proofs.Common.{◌≡◌}
use Rattle.v6_options.specs.Spelling.{look_up}
use Rattle.v6_options.proofs.iter.Iter.value_of.Given as goal

abbrev pub invariant-row : goal.invariant-row
invariant-row l = look_up l.wanted l.code-iterator ≡ look_up l.wanted l.fn.self
