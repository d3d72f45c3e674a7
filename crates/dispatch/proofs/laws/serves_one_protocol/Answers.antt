use Rattle.std.proofs.Common.{◌≡◌, ℕ, refl, ap, ◌∙◌}
use Rattle.std.specs.Prelude.{List, Option, Some, None, Result, Ok, Err}
use Rattle.types.specs.declared.dest.Proto.{Proto}
use Rattle.types.specs.declared.dest.Proto.TheVariants.{V4, V6}
use Rattle.types.specs.declared.discard.Discard.{Discard}
use Rattle.exchange.specs.declared.request4.Request4.{Request4}
use Rattle.exchange.specs.declared.request6.Request6.{Request6}
use Rattle.v4_message.specs.declared.fault.MessageFault.{MessageFault}
use Rattle.v4_message.specs.Reading.{message_of}
use Rattle.v4_message.specs.Spelling.{MessageValue}
use Rattle.v6_options.specs.Codes.{RELAY_MESSAGE}
use Rattle.v6_options.specs.Spelling.{look_up}
use Rattle.v6_message.specs.declared.fault.RelayFault.{RelayFault}
use Rattle.v6_message.specs.Message as v6
use Rattle.v6_message.specs.Relay.{RelayValue}
use Rattle.v6_message.specs.RelayReading.{relay_of}
use Rattle.config.specs.CircuitPart.{CircuitPart}
use Rattle.requests.specs.Request4.{request4_in}
use Rattle.requests.specs.Request6.{request6_in}
use Rattle.circuit_server.specs.Server.{Book, book_at, datagram_served, request4_served, message4_served, request6_served, message6_served, forward_served, served}
use Rattle.dispatch.proofs.laws.serves_one_protocol.Goals as goal

-- a DHCPv4 message leaves the clock and DHCPv6's leases
record Keeps4 (b left : Book) : Type 0 where
  pub clock : left.clock ≡ b.clock
  pub six : left.six ≡ b.six

-- a DHCPv6 message leaves the clock and DHCPv4's leases and offers
record Keeps6 (b left : Book) : Type 0 where
  pub clock : left.clock ≡ b.clock
  pub four : left.four ≡ b.four

module _ (part : CircuitPart) (b : Book) where
  by_request4 : (m : MessageValue) (request : Result Request4 Discard) → Keeps4 b (request4_served part m b request).book
  by_request4 m (Err why) = record { clock = refl; six = refl }
  by_request4 m (Ok request) = record { clock = refl; six = refl }

  by_message4 : (message : Result MessageValue MessageFault) → Keeps4 b (message4_served part b message).book
  by_message4 (Err fault) = record { clock = refl; six = refl }
  by_message4 (Ok m) = by_request4 m (request4_in m)

  by_request6 : (forward : RelayValue) (asked : Result (v6.MessageValue × Request6) Discard) → Keeps6 b (request6_served part forward b asked).book
  by_request6 forward (Err why) = record { clock = refl; four = refl }
  by_request6 forward (Ok asked) = record { clock = refl; four = refl }

  by_message6 : (forward : RelayValue) (message : Option (List ℕ)) → Keeps6 b (message6_served part forward b message).book
  by_message6 forward None = record { clock = refl; four = refl }
  by_message6 forward (Some message) = by_request6 forward (request6_in part.duid message)

  by_forward : (forward : Result RelayValue RelayFault) → Keeps6 b (forward_served part b forward).book
  by_forward (Err fault) = record { clock = refl; four = refl }
  by_forward (Ok forward) = by_message6 forward (look_up RELAY_MESSAGE forward.options)

clock_stays : (part : CircuitPart) (b : Book) (datagram : List ℕ) (proto : Proto) → (datagram_served part proto datagram b).book.clock ≡ b.clock
clock_stays part b datagram V4 = (by_message4 part b (message_of datagram)).clock
clock_stays part b datagram V6 = (by_forward part b (relay_of datagram)).clock

pub returns-clause-clock : goal.returns-clause-clock
unfolding served
returns-clause-clock c part d b = clock_stays part (book_at d.moment b) d.bytes d.proto

pub returns-clause-four : goal.returns-clause-four
unfolding served
returns-clause-four c part d b four =
    ap (λ p. (datagram_served part p d.bytes (book_at d.moment b)).book.six) four ∙ (by_message4 part (book_at d.moment b) (message_of d.bytes)).six

pub returns-clause-six : goal.returns-clause-six
unfolding served
returns-clause-six c part d b six =
    ap (λ p. (datagram_served part p d.bytes (book_at d.moment b)).book.four) six ∙ (by_forward part (book_at d.moment b) (relay_of d.bytes)).four
