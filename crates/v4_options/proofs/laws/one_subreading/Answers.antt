use Rattle.v4_options.proofs.Subexact.{one_list, one_fault, never_both}
use Rattle.v4_options.proofs.laws.one_subreading.Goals as goal

pub returns : goal.returns
returns c = record { list = one_list; fault = one_fault; never_both = never_both }
