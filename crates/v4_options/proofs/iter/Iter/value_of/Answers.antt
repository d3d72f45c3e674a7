use Rattle.std.proofs.Common.{rules}
use Rattle.v4_options.proofs.iter.Iter.value_of.Goals as goal

pub returns-clause-value : goal.returns-clause-value
returns-clause-value c = search rules

pub returns-clause-fits : goal.returns-clause-fits
returns-clause-fits c = search rules
