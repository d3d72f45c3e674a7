use Rattle.std.proofs.Common.{◌≡◌, length}
use Rattle.v4_options.specs.declared.token.Syntax.TheVariants as syntax
use Rattle.v4_options.specs.Reading.{fault_from, has_code, no_code}
use Rattle.v4_options.proofs.fault.suboption_fault.Given as goal

abbrev pub invariant-row : goal.invariant-row
invariant-row l = fault_from syntax.Suboptions (has_code l.seen.words) 0 l.left ≡ fault_from syntax.Suboptions no_code 0 l.bytes

abbrev pub decreases-row : goal.decreases-row
decreases-row l = length l.left
