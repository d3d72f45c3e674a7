use Rattle.std.proofs.Common.{◌≡◌, length}
use Rattle.v6_options.specs.Reading.{cut_from}
use Rattle.v6_options.proofs.options.is_cut.Given as goal

abbrev pub invariant-row : goal.invariant-row
invariant-row l = cut_from 0 l.left ≡ cut_from 0 l.bytes

abbrev pub decreases-row : goal.decreases-row
decreases-row l = length l.left
