use Rattle.v6_options.proofs.Exact.{one_list, never_both}
use Rattle.v6_options.proofs.laws.one_reading.Goals as goal

pub returns : goal.returns
returns c = record { list = one_list; never_both = never_both }
