use Rattle.std.proofs.Common.{◌≡◌, Ok, subst}
use Rattle.v6_message.specs.Message.{MessageValue, message_bytes}
use Rattle.v6_message.specs.MessageReading.{message_of}
use Rattle.v6_message.proofs.MessageExact.{read_again}
use Rattle.v6_message.proofs.message.Message6.write.Goals as goal

pub returns-clause-again : goal.returns-clause-again
returns-clause-again c = subst (λ (m : MessageValue). message_of (message_bytes m) ≡ Ok m) c.self.view_is (read_again _ _ c.self.invariant.spelled c.self.invariant.limits)
