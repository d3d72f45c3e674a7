-- A client's message as the book is asked: type, client, server and addresses.
use Rattle.std.specs.Prelude.{ℕ, Bool, true, false, ◌&&◌, nat_le, List, ◌∷◌, length, take, Option, Some, None, option_map, unwrap_or, Result, Ok, Err, if◌then◌else◌}
use Rattle.std.specs.Option.{option_and_then}
use Rattle.types.specs.Kind4.{kind_of_code}
use Rattle.types.specs.declared.addr.Addr4.{Addr4}
use Rattle.types.specs.declared.discard.Discard.{Discard}
use Rattle.types.specs.declared.discard.Discard.TheVariants as reason
use Rattle.types.specs.declared.kind4.Kind4.{Kind4}
use Rattle.types.specs.declared.kind4.Kind4.TheVariants.{Offer, Ack, Nak}
use Rattle.exchange.specs.declared.request4.Request4.{Request4}
use Rattle.v4_options.specs.Codes.{MESSAGE_TYPE, REQUESTED_ADDRESS, SERVER_IDENTIFIER, CLIENT_IDENTIFIER}
use Rattle.v4_options.specs.Spelling.{look_up}
use Rattle.v4_message.specs.Reading.{kind_in}
use Rattle.v4_message.specs.Spelling.{MessageValue}

-- the client's key: option 61, else the hardware type and address (RFC 2131, section 4.2)
abbrev pub key_of : MessageValue → List ℕ
key_of m = unwrap_or (look_up CLIENT_IDENTIFIER m.options) (1 ∷ take 6 m.header.chaddr)

-- a key of 2 to 64 bytes
abbrev pub is_key : List ℕ → Bool
is_key key = nat_le 2 (length key) && nat_le (length key) 64

abbrev pub address_in : Option (List ℕ) → Option Addr4
address_in option = option_map (λ bytes. record { 0 = bytes }) option

abbrev pub request_of : MessageValue → Kind4 → Request4
request_of m kind = record {
  kind = kind;
  key = key_of m;
  server = address_in (look_up SERVER_IDENTIFIER m.options);
  wanted = address_in (look_up REQUESTED_ADDRESS m.options);
  ciaddr = record { 0 = m.header.ciaddr };
}

-- what only a server sends
abbrev pub is_from_server : Kind4 → Bool
is_from_server Offer = true
is_from_server Ack = true
is_from_server Nak = true
is_from_server kind = false

-- A message of this kind as the book is asked, or why it is not: the first line that fits.
abbrev pub kind_request : MessageValue → Option Kind4 → Result Request4 Discard
kind_request m None = Err reason.Malformed
kind_request m (Some kind) =
    if is_from_server kind then Err reason.NotServed
    else if is_key (key_of m) then Ok (request_of m kind)
    else Err reason.ClientKey

abbrev pub request4_in : MessageValue → Result Request4 Discard
request4_in m = kind_request m (option_and_then kind_of_code (kind_in (look_up MESSAGE_TYPE m.options)))
