use Rattle.v6_message.proofs.RelayExact.{one_message, one_fault, never_both}
use Rattle.v6_message.proofs.laws.one_relay_reading.Goals as goal

pub returns : goal.returns
returns c = record { message = one_message; fault = one_fault; never_both = never_both }
