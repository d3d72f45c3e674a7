use Rattle.std.proofs.Common.{max}
use Rattle.std.specs.Prelude.{ℕ, List, Option, Some, None, Result, Ok, Err}
use Rattle.types.specs.declared.dest.Proto.{Proto}
use Rattle.types.specs.declared.dest.Proto.TheVariants.{V4, V6}
use Rattle.types.specs.declared.discard.Discard.{Discard}
use Rattle.exchange.specs.declared.request4.Request4.{Request4}
use Rattle.exchange.specs.declared.request6.Request6.{Request6}
use Rattle.v4_message.specs.declared.fault.MessageFault.{MessageFault}
use Rattle.v4_message.specs.Reading.{message_of}
use Rattle.v4_message.specs.Spelling.{MessageValue}
use Rattle.v6_options.specs.Codes.{RELAY_MESSAGE}
use Rattle.v6_options.specs.Spelling.{look_up}
use Rattle.v6_message.specs.declared.fault.RelayFault.{RelayFault}
use Rattle.v6_message.specs.Message as v6
use Rattle.v6_message.specs.Relay.{RelayValue}
use Rattle.v6_message.specs.RelayReading.{relay_of}
use Rattle.requests.specs.Request4.{request4_in}
use Rattle.requests.specs.Request6.{request6_in}
use Rattle.config.specs.CircuitPart.{pool4_of, pool6_of}
use Rattle.circuit_server.specs.Server.{IsBook, book_at, datagram_served, request4_served, message4_served, request6_served, message6_served, forward_served, served}
use Rattle.dispatch.proofs.laws.leaves_a_book.Goals as goal

pub returns-clause-empty : goal.returns-clause-empty
returns-clause-empty c clock = record { four = c.leaves_a_book.ensures.empty clock; six = c.leaves_a_book-2.ensures.empty clock }

pub returns-clause-later : goal.returns-clause-later
returns-clause-later c now b book = record {
  four = c.leaves_a_book.ensures.later b.clock (max b.clock now) b.four book.four;
  six = c.leaves_a_book-2.ensures.later b.clock (max b.clock now) b.six book.six;
}

pub returns-clause-answered : goal.returns-clause-answered
unfolding served
returns-clause-answered c part d b sound book = by_proto d.proto where
  before : IsBook (book_at d.moment b)
  before = record {
    four = c.leaves_a_book.ensures.later b.clock (max b.clock d.moment) b.four book.four;
    six = c.leaves_a_book-2.ensures.later b.clock (max b.clock d.moment) b.six book.six;
  }

  by_request4 : (m : MessageValue) (request : Result Request4 Discard) → IsBook (request4_served part m (book_at d.moment b) request).book
  by_request4 m (Err why) = before
  by_request4 m (Ok request) = record {
    four = c.leaves_a_book.ensures.decided (pool4_of part) (book_at d.moment b).clock request sound.pool4 (book_at d.moment b).four before.four;
    six = before.six;
  }

  by_message4 : (message : Result MessageValue MessageFault) → IsBook (message4_served part (book_at d.moment b) message).book
  by_message4 (Err fault) = before
  by_message4 (Ok m) = by_request4 m (request4_in m)

  by_request6 : (forward : RelayValue) (asked : Result (v6.MessageValue × Request6) Discard) → IsBook (request6_served part forward (book_at d.moment b) asked).book
  by_request6 forward (Err why) = before
  by_request6 forward (Ok asked) = record {
    four = before.four;
    six = c.leaves_a_book-2.ensures.decided (pool6_of part) (book_at d.moment b).clock asked.1 sound.pool6 (book_at d.moment b).six before.six;
  }

  by_message6 : (forward : RelayValue) (message : Option (List ℕ)) → IsBook (message6_served part forward (book_at d.moment b) message).book
  by_message6 forward None = before
  by_message6 forward (Some message) = by_request6 forward (request6_in part.duid message)

  by_forward : (forward : Result RelayValue RelayFault) → IsBook (forward_served part (book_at d.moment b) forward).book
  by_forward (Err fault) = before
  by_forward (Ok forward) = by_message6 forward (look_up RELAY_MESSAGE forward.options)

  by_proto : (proto : Proto) → IsBook (datagram_served part proto d.bytes (book_at d.moment b)).book
  by_proto V4 = by_message4 (message_of d.bytes)
  by_proto V6 = by_forward (relay_of d.bytes)

pub returns-clause-kept : goal.returns-clause-kept
returns-clause-kept c b book = record { four = c.begins_a_book.ensures.kept b.clock b.four book.four; six = book.six }
