-- What a relay makes of a client's DHCPv6 frame, by its circuit's part of the configuration alone.
use Rattle.std.specs.Prelude.{ℕ, ◌||◌, ◌==◌, nat_lt, List, [], ◌∷◌, length, take, drop, slice_index, is_none, Result, Ok, Err, if◌then◌else◌}
use Rattle.std.specs.Result.{is_err}
use Rattle.types.specs.Kind6.{kind6_of_code}
use Rattle.types.specs.declared.discard.Discard.{Discard}
use Rattle.types.specs.declared.discard.Discard.TheVariants as reason
use Rattle.v6_options.specs.Codes.{RELAY_MESSAGE, INTERFACE_ID}
use Rattle.v6_message.specs.MessageReading.{message_of}
use Rattle.v6_message.specs.Relay.{RelayValue, relay_bytes}
use Rattle.config.specs.CircuitPart.{CircuitPart}

-- The Relay-forward with a client's message, from this address: the circuit's id as interface id, and
-- the message as it came (RFC 8415, section 19.1.1).
abbrev pub relay_forward : CircuitPart → List ℕ → List ℕ → RelayValue
relay_forward part peer message = record {
  kind = 12;
  hop_count = 0;
  link_address = part.link6;
  peer_address = peer;
  options = (INTERFACE_ID, part.id) ∷ (RELAY_MESSAGE, message) ∷ [];
}

-- A client's message, whose first byte is its type: the first line that fits. Only a relay sends
-- Relay-forward (12) and Relay-reply (13); what a client sends is about its addresses (section 7.3).
abbrev pub message_relayed_up6 : CircuitPart → List ℕ → List ℕ → Result (List ℕ) Discard
message_relayed_up6 part peer message =
    if slice_index message 0 == 12 || slice_index message 0 == 13 then Err reason.NestedRelay
    else if is_none (kind6_of_code (slice_index message 0)) then Err reason.WrongType
    else if is_err (message_of message) then Err reason.MalformedUp
    else Ok (relay_bytes (relay_forward part peer message))

-- A client's frame of 20 to 1024 bytes, its address and its message: the datagram for the server, or why
-- there is none.
unfoldable pub relayed_up6 : CircuitPart → List ℕ → Result (List ℕ) Discard
relayed_up6 part frame =
    if nat_lt 1024 (length frame) then Err reason.TooLong
    else if nat_lt (length frame) 20 then Err reason.MalformedUp
    else message_relayed_up6 part (take 16 frame) (drop 16 frame)
