use Rattle.v6_options.proofs.Results.{one_err, ok_or_err}
use Rattle.v6_message.specs.MessageReading.{message_of}
use Rattle.v6_message.proofs.MessageExact.{one_message, read_spells, read_fails}
use Rattle.v6_message.proofs.laws.one_message_reading.Goals as goal

pub returns : goal.returns
returns c = record {
  message = one_message;
  fault = λ bytes a b are p q. one_err (message_of bytes) a b (read_fails bytes a are.each p) (read_fails bytes b are.each q);
  never_both = λ bytes m fault are p r q. ok_or_err (message_of bytes) m fault (read_spells bytes m p r) (read_fails bytes fault are.each q);
}
