-- One circuit's server: its book, and what it makes of a datagram of the circuit.
use Rattle.std.specs.Prelude.{ℕ, false, max, List, Option, Some, None, Result, Ok, Err}
use Rattle.std.specs.Result.{result_map_both}
use Rattle.types.specs.Delivery.{DeliveryValue}
use Rattle.types.specs.declared.dest.Proto.{Proto}
use Rattle.types.specs.declared.dest.Proto.TheVariants.{V4, V6}
use Rattle.types.specs.declared.discard.Discard.{Discard}
use Rattle.types.specs.declared.discard.Discard.TheVariants as reason
use Rattle.exchange.specs.declared.request4.Request4.{Request4}
use Rattle.exchange.specs.declared.request6.Request6.{Request6}
use Rattle.v4_message.specs.declared.fault.MessageFault.{MessageFault}
use Rattle.v4_message.specs.Reading.{message_of}
use Rattle.v4_message.specs.Spelling.{MessageValue}
use Rattle.v6_options.specs.Codes.{RELAY_MESSAGE}
use Rattle.v6_options.specs.Spelling.{look_up}
use Rattle.v6_message.specs.declared.fault.RelayFault.{RelayFault}
use Rattle.v6_message.specs.Message as v6
use Rattle.v6_message.specs.Relay.{RelayValue}
use Rattle.v6_message.specs.RelayReading.{relay_of}
use Rattle.config.specs.CircuitPart.{CircuitPart, pool4_of, pool6_of}
use Rattle.bindings_v4.specs.Book4.{Book4, book4_at}
use Rattle.bindings_v4.specs.Kept4 as kept4
use Rattle.bindings_v4.specs.IsBook4.{IsBook4}
use Rattle.slots.specs.Row.{Decision}
use Rattle.bindings_v4.specs.Table4.{answer4}
use Rattle.bindings_v6.specs.Book6.{Book6, book6_at}
use Rattle.bindings_v6.specs.IsBook6.{IsBook6}
use Rattle.bindings_v6.specs.Table6.{answer6}
use Rattle.replies.specs.Reply4.{reply4_bytes}
use Rattle.replies.specs.Reply6.{reply6_bytes}
use Rattle.requests.specs.Request4.{request4_in}
use Rattle.requests.specs.Request6.{request6_in}

-- The clock of a circuit in seconds, and its leases of both protocols.
pub record Book : Type 0 where
  pub clock : ℕ
  pub four : Book4
  pub six : Book6

-- What makes a book: every entry is live, no address is named twice, and no client has both a binding
-- and an offer.
pub record IsBook (b : Book) : Type 0 where
  pub four : IsBook4 b.clock b.four
  pub six : IsBook6 b.clock b.six

-- The book at a moment: the clock never goes back, and what has expired is left out.
abbrev pub book_at : ℕ → Book → Book
book_at now b = record { clock = max b.clock now; four = book4_at (max b.clock now) b.four; six = book6_at (max b.clock now) b.six }

-- What the disk keeps of a book: all but its offers, which DHCPv4 alone has.
abbrev pub kept_book : Book → Book
kept_book b = record b { four = kept4.kept_book b.four }

-- The reply's datagram, or why there is none; the book after it; and whether it has to be saved before
-- the reply leaves.
abbrev pub Served : Type 0
Served = Decision (List ℕ) Book

abbrev pub drop : Discard → Book → Served
drop why b = record { answer = Err why; book = b; is_kept = false }

-- One protocol's decision, by how its reply is spelled and how its book stands in the circuit's.
abbrev pub decision_served : {Reply Own : Type 0} → (Reply → List ℕ) → (Own → Book) → Decision Reply Own → Served
decision_served spelled within decision =
    record { answer = result_map_both spelled (λ why. why) decision.answer; book = within decision.book; is_kept = decision.is_kept }

-- ---- DHCPv4

-- DHCPv6's leases stay.
abbrev pub request4_served : CircuitPart → MessageValue → Book → Result Request4 Discard → Served
request4_served part m b (Err why) = drop why b
request4_served part m b (Ok request) = decision_served (reply4_bytes part m) (λ four. record b { four = four }) (answer4 (pool4_of part) b.clock b.four request)

abbrev pub message4_served : CircuitPart → Book → Result MessageValue MessageFault → Served
message4_served part b (Err fault) = drop reason.Malformed b
message4_served part b (Ok m) = request4_served part m b (request4_in m)

-- ---- DHCPv6

-- a message inside a Relay-forward, and what it asks. DHCPv4's leases and offers stay.
abbrev pub request6_served : CircuitPart → RelayValue → Book → Result (v6.MessageValue × Request6) Discard → Served
request6_served part forward b (Err why) = drop why b
request6_served part forward b (Ok asked) =
    decision_served (reply6_bytes part forward asked.0 asked.1.key) (λ six. record b { six = six }) (answer6 (pool6_of part) b.clock b.six asked.1)

-- by the relay message, which each Relay-forward of a circuit has
abbrev pub message6_served : CircuitPart → RelayValue → Book → Option (List ℕ) → Served
message6_served part forward b None = drop reason.Malformed b
message6_served part forward b (Some message) = request6_served part forward b (request6_in part.duid message)

abbrev pub forward_served : CircuitPart → Book → Result RelayValue RelayFault → Served
forward_served part b (Err fault) = drop reason.Malformed b
forward_served part b (Ok forward) = message6_served part forward b (look_up RELAY_MESSAGE forward.options)

-- ---- by the protocol

abbrev pub datagram_served : CircuitPart → Proto → List ℕ → Book → Served
datagram_served part V4 datagram b = message4_served part b (message_of datagram)
datagram_served part V6 datagram b = forward_served part b (relay_of datagram)

-- A datagram of the circuit.
unfoldable pub served : CircuitPart → DeliveryValue → Book → Served
served part d b = datagram_served part d.proto d.bytes (book_at d.moment b)
