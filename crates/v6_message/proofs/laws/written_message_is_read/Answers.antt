use Rattle.std.proofs.Common.{refl, arith}
use Rattle.v6_message.proofs.MessageExact.{few_addresses, again, written_counted}
use Rattle.v6_message.proofs.laws.written_message_is_read.Goals as goal

pub returns : goal.returns
returns c = record {
  spelled = λ m id options allowed one few. record { whole = refl; id = id; options = options; allowed = allowed; one = one; few = few };
  read = λ m id options allowed r. again m (record { whole = refl; id = id; options = options; allowed = allowed; one = omega (arith, r.ia.one); few = few_addresses m r }) r;
  counts = written_counted;
}
