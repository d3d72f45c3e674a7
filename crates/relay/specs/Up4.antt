-- What a relay makes of a client's DHCPv4 frame, by its circuit's part of the configuration alone.
use Rattle.std.specs.Prelude.{ℕ, ◌+◌, Bool, false, not, ◌||◌, ◌==◌, nat_lt, nat_le, List, [], ◌∷◌, ◌++◌, length, Option, is_some, Result, Ok, Err, if◌then◌else◌}
use Rattle.std.specs.Option.{option_map_or}
use Rattle.types.specs.Addr.{is_unspecified}
use Rattle.types.specs.declared.discard.Discard.{Discard}
use Rattle.types.specs.declared.discard.Discard.TheVariants as reason
use Rattle.v4_options.specs.Codes.{MESSAGE_TYPE, RELAY_AGENT_INFORMATION, CIRCUIT_ID, SERVER_IDENTIFIER_OVERRIDE}
use Rattle.v4_options.specs.Spelling.{option, look_up}
use Rattle.v4_message.specs.declared.fault.MessageFault.{MessageFault}
use Rattle.v4_message.specs.Reading.{message_of, kind_in}
use Rattle.v4_message.specs.Spelling.{MessageValue, message_bytes}
use Rattle.config.specs.CircuitPart.{CircuitPart}

-- The relay agent information of a circuit: its id (RFC 3046, section 3.1) and the gateway as server
-- identifier override (RFC 5107, section 4).
abbrev pub agent_information : CircuitPart → List ℕ
agent_information part = option CIRCUIT_ID part.id ++ option SERVER_IDENTIFIER_OVERRIDE part.gateway4.0

-- The message one hop further, with giaddr (RFC 1542, section 4.1.1) and with option 82 as its last
-- option (RFC 3046, section 2.1).
abbrev pub with_agent_information : CircuitPart → MessageValue → MessageValue
with_agent_information part m = record {
  header = record m.header { hops = m.header.hops + 1; giaddr = part.gateway4.0 };
  options = m.options ++ (RELAY_AGENT_INFORMATION, agent_information part) ∷ [];
}

-- what only a server sends: DHCPOFFER (2), DHCPACK (5) and DHCPNAK (6)
abbrev pub is_from_server : Option ℕ → Bool
is_from_server found = option_map_or (λ kind. kind == 2 || kind == 5 || kind == 6) found false

-- A client's message: the first line that fits.
abbrev pub message_relayed_up : CircuitPart → Result MessageValue MessageFault → Result (List ℕ) Discard
message_relayed_up part (Err fault) = Err reason.MalformedUp
message_relayed_up part (Ok m) =
    if not (m.header.op == 1) then Err reason.NotRequest
    else if not (is_unspecified m.header.giaddr) then Err reason.HasGiaddr
    else if is_some (look_up RELAY_AGENT_INFORMATION m.options) then Err reason.HasOption82
    else if nat_le 16 m.header.hops then Err reason.Hops
    else if is_from_server (kind_in (look_up MESSAGE_TYPE m.options)) then Err reason.WrongType
    else Ok (message_bytes (with_agent_information part m))

-- A client's frame of at most 1024 bytes: the datagram for the server, or why there is none.
unfoldable pub relayed_up4 : CircuitPart → List ℕ → Result (List ℕ) Discard
relayed_up4 part frame = if nat_lt 1024 (length frame) then Err reason.TooLong else message_relayed_up part (message_of frame)
