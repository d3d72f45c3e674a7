use Rattle.v4_options.proofs.Exact.{one_list, one_fault, never_both, spelled_distinct}
use Rattle.v4_options.proofs.laws.one_reading.Goals as goal

pub returns : goal.returns
returns c = record { list = one_list; fault = one_fault; never_both = never_both; distinct = spelled_distinct }
