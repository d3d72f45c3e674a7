-- What a circuit's server answers to a DHCPv6 datagram, as it reads back.
use Rattle.std.specs.Prelude.{◌≡◌, ℕ, ◌≤◌, List, length, Some, Ok}
use Rattle.types.specs.Delivery.{DeliveryValue}
use Rattle.exchange.specs.declared.request6.Reply6.{Reply6}
use Rattle.exchange.specs.declared.request6.Request6.{Request6}
use Rattle.v6_options.specs.Codes.{RELAY_MESSAGE}
use Rattle.v6_options.specs.Spelling.{look_up}
use Rattle.v6_message.specs.Message.{MessageValue, SpellsMessage, message_bytes}
use Rattle.v6_message.specs.MessageReading.{message_of}
use Rattle.v6_message.specs.Relay.{RelayValue, SpellsRelay}
use Rattle.v6_message.specs.RelayReading.{relay_of}
use Rattle.config.specs.CircuitPart.{CircuitPart, pool6_of}
use Rattle.bindings_v6.specs.Table6.{answer6}
use Rattle.requests.specs.Request6.{request6_in}
use Rattle.replies.specs.Reply6.{read_within, relay_reply, reply6_bytes, reply_message}
use Rattle.circuit_server.specs.Server.{Book, book_at}

-- These bytes are the reply to a datagram, by the circuit's book before it.
pub record IsReadBack (part : CircuitPart) (d : DeliveryValue) (b : Book) (bytes : List ℕ) : Type 0 where
  -- the datagram's Relay-forward, the client's message in it, and what that asks
  pub forward : RelayValue
  pub relayed : relay_of d.bytes ≡ Ok forward
  pub carried : List ℕ
  pub carries : look_up RELAY_MESSAGE forward.options ≡ Some carried
  pub message : MessageValue
  pub request : Request6
  pub asks : request6_in part.duid carried ≡ Ok (message, request)
  -- the reply of the table, and its bytes
  pub reply : Reply6
  pub decided : (answer6 (pool6_of part) (book_at d.moment b).clock (book_at d.moment b).six request).answer ≡ Ok reply
  pub written : bytes ≡ reply6_bytes part forward message request.key reply
  pub short : length bytes ≤ 508
  -- They spell the Relay-reply, and what that carries spells the client's reply.
  pub spelled : SpellsRelay bytes (relay_reply part forward message request.key reply)
  pub again : relay_of bytes ≡ Ok (relay_reply part forward message request.key reply)
  pub inside : SpellsMessage (message_bytes (reply_message part message request.key reply)) (reply_message part message request.key reply)
  pub inside_again : message_of (message_bytes (reply_message part message request.key reply)) ≡ read_within reply.ia (reply_message part message request.key reply)
