-- What a relay makes of a DHCPv6 datagram from the server, for one circuit.
use Rattle.std.specs.Prelude.{ℕ, ◌==◌, nat_lt, List, length, Option, Some, None, Result, Ok, Err, if◌then◌else◌}
use Rattle.types.specs.declared.dest.Dest.TheVariants.{Peer}
use Rattle.types.specs.declared.discard.Discard.{Discard}
use Rattle.types.specs.declared.discard.Discard.TheVariants as reason
use Rattle.v6_options.specs.Codes.{RELAY_MESSAGE, INTERFACE_ID}
use Rattle.v6_options.specs.Spelling.{look_up}
use Rattle.v6_message.specs.declared.fault.RelayFault.{RelayFault}
use Rattle.v6_message.specs.Relay.{RelayValue}
use Rattle.v6_message.specs.RelayReading.{relay_of}
use Rattle.config.specs.CircuitPart.{CircuitPart}
use Rattle.relay.specs.SentFrame.{SentFrame}
use Rattle.relay.specs.Down.{◌>>=◌, AddressedFrame, frame_for}

-- The message inside goes to the peer as it is (RFC 8415, section 19.2).
abbrev pub frame_inside : RelayValue → List ℕ → SentFrame
frame_inside m message = record { dest = Peer (record { 0 = m.peer_address }); bytes = message }

-- ---- the steps, each with what it refuses

abbrev pub relay_in_reply : Result RelayValue RelayFault → Result RelayValue Discard
relay_in_reply (Err fault) = Err reason.MalformedDown
relay_in_reply (Ok m) = if m.kind == 13 then Ok m else Err reason.MalformedDown

-- the relay message of a datagram of at most 1280 bytes, which has to be a Relay-reply
unfoldable pub reply_of6 : List ℕ → Result RelayValue Discard
reply_of6 datagram = if nat_lt 1280 (length datagram) then Err reason.MalformedDown else relay_in_reply (relay_of datagram)

-- by its interface id, which names the circuit (section 21.18), and the message inside; both have to be there
abbrev pub addressed_by : RelayValue → Option (List ℕ) → Option (List ℕ) → Result AddressedFrame Discard
addressed_by m (Some id) (Some message) = Ok (record { circuit_id = Some id; link = m.link_address; frame = frame_inside m message })
addressed_by m (Some id) None = Err reason.MalformedDown
addressed_by m None message = Err reason.MalformedDown

-- the frame in a datagram, with its circuit and link
abbrev pub addressed_frame6 : List ℕ → Result AddressedFrame Discard
addressed_frame6 datagram = do
  m ← reply_of6 datagram
  addressed_by m (look_up INTERFACE_ID m.options) (look_up RELAY_MESSAGE m.options)

-- A datagram from the server to the circuit's relay: the frame, or why there is none. The link is named
-- by link-address.
unfoldable pub relayed_down6 : CircuitPart → List ℕ → Result SentFrame Discard
relayed_down6 part datagram = do
  reply ← addressed_frame6 datagram
  frame_for part part.link6 reply
