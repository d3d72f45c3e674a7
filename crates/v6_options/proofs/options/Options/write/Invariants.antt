use Rattle.std.proofs.Common.{◌≡◌, ◌≤◌, ◌++◌, length}
use Rattle.v6_options.specs.Spelling.{spelling}
use Rattle.v6_options.proofs.options.Options.write.Given as goal

abbrev pub invariant-row : goal.invariant-row
invariant-row l = record {
  all : l.out ++ spelling l.code-iterator ≡ l.fn.out ++ spelling l.self;
  fits : length l.out ≤ 1280;
}
