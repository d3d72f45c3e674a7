use Rattle.std.proofs.Common.{◌≡◌, length}
use Rattle.v4_options.specs.Reading.{listed_from}
use Rattle.v4_options.proofs.iter.IterIterator.next.Given as goal

abbrev pub invariant-row : goal.invariant-row
invariant-row l = listed_from l.self-inside.syntax 0 l.self-inside.left ≡ l.fn.self

abbrev pub decreases-row : goal.decreases-row
decreases-row l = length l.self-inside.left
