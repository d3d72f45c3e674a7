use Rattle.std.proofs.Common.{◌≡◌, Ok, subst}
use Rattle.v6_message.specs.Relay.{RelayValue, relay_bytes}
use Rattle.v6_message.specs.RelayReading.{relay_of}
use Rattle.v6_message.proofs.RelayExact.{read_again}
use Rattle.v6_message.proofs.relay.Relay6.write.Goals as goal

pub returns-clause-again : goal.returns-clause-again
returns-clause-again c = subst (λ (m : RelayValue). relay_of (relay_bytes m) ≡ Ok m) c.self.view_is (read_again _ _ c.self.invariant.spelled)

pub returns-in_err-write-clause-again : goal.returns-in_err-write-clause-again
returns-in_err-write-clause-again c = subst (λ (m : RelayValue). relay_of (relay_bytes m) ≡ Ok m) c.self.view_is (read_again _ _ c.self.invariant.spelled)
