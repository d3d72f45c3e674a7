use Rattle.std.proofs.Common.{refl}
use Rattle.v6_message.specs.Relay.{relay_bytes}
use Rattle.v6_message.proofs.RelayExact.{read_spells}
use Rattle.v6_message.proofs.laws.written_relay_is_read.Goals as goal

pub returns : goal.returns
returns c = record {
  spelled = λ m link peer options allowed. record { whole = refl; link = link; peer = peer; options = options; allowed = allowed };
  read = λ m link peer options allowed. read_spells (relay_bytes m) m (record { whole = refl; link = link; peer = peer; options = options; allowed = allowed });
}
