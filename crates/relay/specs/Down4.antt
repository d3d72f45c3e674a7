-- What a relay makes of a DHCPv4 datagram from the server, for one circuit.
use Rattle.std.specs.Prelude.{ℕ, Bool, not, ◌||◌, ◌==◌, nat_lt, List, length, take, Option, Some, None, Result, Ok, Err, if◌then◌else◌, bit_and}
use Rattle.types.specs.Addr.{is_unspecified}
use Rattle.types.specs.declared.dest.Dest.{Dest}
use Rattle.types.specs.declared.dest.Dest.TheVariants.{Broadcast, Unicast}
use Rattle.types.specs.declared.discard.Discard.{Discard}
use Rattle.types.specs.declared.discard.Discard.TheVariants as reason
use Rattle.v4_options.specs.Codes.{RELAY_AGENT_INFORMATION, CIRCUIT_ID}
use Rattle.v4_options.specs.declared.fault.SuboptFault.{SuboptFault}
use Rattle.v4_options.specs.Spelling.{look_up, without}
use Rattle.v4_message.specs.declared.fault.MessageFault.{MessageFault}
use Rattle.v4_message.specs.Layout.{BROADCAST}
use Rattle.v4_message.specs.Reading.{message_of}
use Rattle.v4_message.specs.Spelling.{MessageValue, message_bytes}
use Rattle.wire.specs.Padding.{padded_to}
use Rattle.config.specs.CircuitPart.{CircuitPart}
use Rattle.config.specs.Topology.{has_id}
use Rattle.v4_message.specs.Agent.{agent_of}
use Rattle.relay.specs.SentFrame.{SentFrame}
use Rattle.relay.specs.Down.{◌>>=◌, AddressedFrame, frame_for}

-- To all clients where the client can't take a unicast yet, or has no address (RFC 2131, section 4.1).
abbrev pub dest_of : MessageValue → Dest
dest_of m =
    if not (bit_and m.header.flags BROADCAST == 0) || is_unspecified m.header.yiaddr then Broadcast
    else Unicast (take 6 m.header.chaddr) (record { 0 = m.header.yiaddr })

-- The reply without option 82 (RFC 3046, section 2.1), zero-padded to 300 bytes.
abbrev pub without_agent_information : MessageValue → SentFrame
without_agent_information m = record {
  dest = dest_of m;
  bytes = padded_to 300 (message_bytes (record m { options = without RELAY_AGENT_INFORMATION m.options }));
}

-- ---- the steps, each with what it refuses

abbrev pub message_in_reply : Result MessageValue MessageFault → Result MessageValue Discard
message_in_reply (Err fault) = Err reason.MalformedDown
message_in_reply (Ok m) = if m.header.op == 2 then Ok m else Err reason.MalformedDown

-- the message of a datagram of at most 1280 bytes, which has to be a server's (BOOTREPLY)
unfoldable pub reply_of : List ℕ → Result MessageValue Discard
reply_of datagram = if nat_lt 1280 (length datagram) then Err reason.MalformedDown else message_in_reply (message_of datagram)

-- the suboptions, by what option 82 holds
abbrev pub suboptions_in : Option (Result (List (ℕ × List ℕ)) SuboptFault) → Result (List (ℕ × List ℕ)) Discard
suboptions_in None = Err reason.UnknownCircuitDown
suboptions_in (Some (Err fault)) = Err reason.MalformedDown
suboptions_in (Some (Ok suboptions)) = Ok suboptions

-- whether the circuit has exactly the id in option 82 (RFC 3046, section 3.1)
abbrev pub is_named : List (ℕ × List ℕ) → CircuitPart → Bool
is_named suboptions part = has_id (look_up CIRCUIT_ID suboptions) part

-- its circuit is named by suboption 1, and the circuit's link by giaddr
abbrev pub addressed_by4 : MessageValue → List (ℕ × List ℕ) → AddressedFrame
addressed_by4 m suboptions = record { circuit_id = look_up CIRCUIT_ID suboptions; link = m.header.giaddr; frame = without_agent_information m }

-- the frame in a datagram, with its circuit and link
abbrev pub addressed_frame4 : List ℕ → Result AddressedFrame Discard
addressed_frame4 datagram = do
  m ← reply_of datagram
  suboptions ← suboptions_in (agent_of m)
  Ok (addressed_by4 m suboptions)

-- A datagram from the server to the circuit's relay: the frame, or why there is none. The link is named
-- by the gateway.
unfoldable pub relayed_down4 : CircuitPart → List ℕ → Result SentFrame Discard
relayed_down4 part datagram = do
  reply ← addressed_frame4 datagram
  frame_for part part.gateway4.0 reply
