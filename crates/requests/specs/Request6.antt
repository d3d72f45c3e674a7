-- A client's DHCPv6 message as the book is asked: type, client, server and addresses.
use Rattle.std.specs.Prelude.{ℕ, Bool, ◌&&◌, nat_le, nat_lt, List, length, map, slice_index, Option, Some, None, Result, Ok, Err, if◌then◌else◌}
use Rattle.std.specs.Str.{bytes_eq}
use Rattle.std.specs.Result.{result_map_both}
use Rattle.std.specs.Option.{option_and_then}
use Rattle.types.specs.Kind6.{kind6_of_code}
use Rattle.types.specs.declared.discard.Discard.{Discard}
use Rattle.types.specs.declared.discard.Discard.TheVariants as reason
use Rattle.types.specs.declared.kind6.Kind6.{Kind6}
use Rattle.exchange.specs.declared.request6.Request6.{Request6}
use Rattle.exchange.specs.declared.request6.ServerId.{ServerId}
use Rattle.exchange.specs.declared.request6.ServerId.TheVariants as server
use Rattle.v6_options.specs.Codes.{CLIENT_ID, SERVER_ID, IA_NA}
use Rattle.v6_options.specs.Spelling.{look_up}
use Rattle.v6_message.specs.declared.fault.MessageFault.{MessageFault}
use Rattle.v6_message.specs.Ia.{IaValue, addresses_in, ia_of}
use Rattle.v6_message.specs.Message.{MessageValue}
use Rattle.v6_message.specs.MessageReading.{message_of}

-- a DUID of 3 to 130 bytes (RFC 8415, section 11.1)
abbrev pub is_duid : List ℕ → Bool
is_duid id = nat_le 3 (length id) && nat_le (length id) 130

-- which server a message names, by this server's DUID and the message's option 2
abbrev pub server_in : List ℕ → Option (List ℕ) → ServerId
server_in duid None = server.None
server_in duid (Some id) = if bytes_eq id duid then server.Ours else server.Other

abbrev pub request6_of : List ℕ → Kind6 → MessageValue → List ℕ → IaValue → Request6
request6_of duid kind m client ia = record {
  kind = kind;
  key = record { duid = client; iaid = ia.iaid };
  server = server_in duid (look_up SERVER_ID m.options);
  listed = record { items = map (λ a. record { 0 = a.address }) (addresses_in ia.options) };
}

-- by the client id, and the IA_NA, which each message that was read has
abbrev pub client_request : List ℕ → Kind6 → MessageValue → Option (List ℕ) → Option IaValue → Result Request6 Discard
client_request duid kind m (Some client) (Some ia) = if is_duid client then Ok (request6_of duid kind m client ia) else Err reason.ClientKey
client_request duid kind m client ia = Err reason.ClientKey

abbrev pub read_request : List ℕ → Kind6 → Result MessageValue MessageFault → Result (MessageValue × Request6) Discard
read_request duid kind (Err fault) = Err reason.Malformed
read_request duid kind (Ok m) =
    result_map_both (λ request. (m, request)) (λ why. why) (client_request duid kind m (look_up CLIENT_ID m.options) (option_and_then ia_of (look_up IA_NA m.options)))

abbrev pub kind_request : List ℕ → List ℕ → Option Kind6 → Result (MessageValue × Request6) Discard
kind_request duid message None = Err reason.NotServed
kind_request duid message (Some kind) = read_request duid kind (message_of message)

-- The message inside a Relay-forward and what it asks a server of this DUID, or why it asks nothing: the
-- first line that fits.
abbrev pub request6_in : List ℕ → List ℕ → Result (MessageValue × Request6) Discard
request6_in duid message =
    if nat_lt (length message) 4 then Err reason.Malformed
    else kind_request duid message (kind6_of_code (slice_index message 0))
