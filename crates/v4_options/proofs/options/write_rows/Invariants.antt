use Rattle.std.proofs.Common.{◌≡◌, ◌≤◌, ◌++◌, take, length}
use Rattle.v4_options.specs.Reading.{listed_from}
use Rattle.v4_options.specs.Spelling.{spelling, without}
use Rattle.v4_options.specs.declared.token.Syntax.TheVariants as syntax
use Rattle.v4_options.proofs.options.write_rows.Given as goal

abbrev pub invariant-row : goal.invariant-row
invariant-row l = record {
  row : take l.len l.front ++ l.left ≡ l.front;
  within : l.len ≤ length l.front;
  all : l.out ++ (take l.len l.front ++ spelling (without l.left_out (listed_from syntax.Options 0 l.left))) ≡ l.fn.out ++ spelling (without l.left_out (listed_from syntax.Options 0 l.bytes));
  fits : length l.out ≤ 1280;
}

abbrev pub decreases-row : goal.decreases-row
decreases-row l = length l.left
