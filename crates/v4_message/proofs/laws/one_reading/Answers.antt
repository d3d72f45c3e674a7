use Rattle.v4_message.proofs.Exact.{one_message, one_fault, never_both, distinct}
use Rattle.v4_message.proofs.laws.one_reading.Goals as goal

pub returns : goal.returns
returns c = record { message = one_message; fault = one_fault; never_both = never_both; distinct = distinct }
