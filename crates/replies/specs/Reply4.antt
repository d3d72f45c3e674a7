-- The bytes of the server's DHCPv4 replies (RFC 2131, section 4.3.1, table 3).
use Rattle.std.specs.Prelude.{ℕ, ◌-◌, ◌*◌, ◌/◌, ◌^◌, List, [], ◌∷◌, ◌++◌, replicate, Option, Some, None, bit_or}
use Rattle.std.specs.Int.{w32, to_be_bytes}
use Rattle.std.specs.List.{flat_map}
use Rattle.types.specs.declared.addr.Addr4.{Addr4}
use Rattle.exchange.specs.declared.request4.Reply4.{Reply4}
use Rattle.exchange.specs.declared.request4.Reply4.TheVariants.{Offer, Ack, Inform, Nak}
use Rattle.v4_options.specs.Spelling.{look_up}
use Rattle.v4_message.specs.Header.{HeaderValue}
use Rattle.v4_message.specs.Spelling.{MessageValue, message_bytes}
use Rattle.wire.specs.Padding.{padded_to}
use Rattle.config.specs.CircuitPart.{CircuitPart}

-- ---- the header

-- a NAK has the broadcast flag (RFC 2131, section 4.3.2)
abbrev pub flags_in : MessageValue → Reply4 → ℕ
flags_in request Nak = bit_or request.header.flags 32768
flags_in request reply = request.header.flags

-- ciaddr is the client's in an ACK
abbrev pub ciaddr_in : MessageValue → Reply4 → List ℕ
ciaddr_in request (Ack address) = request.header.ciaddr
ciaddr_in request Inform = request.header.ciaddr
ciaddr_in request reply = replicate 4 0

-- yiaddr is the address that is offered or leased
abbrev pub yiaddr_in : Reply4 → List ℕ
yiaddr_in (Offer address) = address.0
yiaddr_in (Ack address) = address.0
yiaddr_in reply = replicate 4 0

-- xid, giaddr and chaddr stay the client's (RFC 2131, table 3)
abbrev pub reply_header : MessageValue → Reply4 → HeaderValue
reply_header request reply = record request.header {
  op = 2;
  hops = 0;
  secs = replicate 2 0;
  flags = flags_in request reply;
  ciaddr = ciaddr_in request reply;
  yiaddr = yiaddr_in reply;
  siaddr = replicate 4 0;
  sname = replicate 64 0;
  file = replicate 128 0;
}

-- ---- the options, in the order sent

-- as many ones as the prefix has bits, then zeros, as a number (RFC 2132, section 3.3)
abbrev pub mask : ℕ → ℕ
mask prefix = 2 ^ 32 - 2 ^ (32 - prefix)

-- the name servers, left out where there are none (RFC 2132, section 3.8)
abbrev pub name_servers : List Addr4 → List (ℕ × List ℕ)
name_servers [] = []
name_servers (address ∷ addresses) = (6, flat_map (λ a. a.0) (address ∷ addresses)) ∷ []

-- the relay agent information as the relay sent it (RFC 3046, section 2.2)
abbrev pub echo : Option (List ℕ) → List (ℕ × List ℕ)
echo None = []
echo (Some information) = (82, information) ∷ []

-- An OFFER (2) or an ACK (5) with a lease: message type, server identifier, lease time, T1 and T2
-- (RFC 2131, section 4.4.5), subnet mask, router, name servers, relay agent information.
abbrev pub lease_options : ℕ → CircuitPart → MessageValue → List (ℕ × List ℕ)
lease_options kind part request =
    (53, kind ∷ [])
    ∷ (54, part.gateway4.0)
    ∷ (51, to_be_bytes w32 part.lease)
    ∷ (58, to_be_bytes w32 (part.lease / 2))
    ∷ (59, to_be_bytes w32 (7 * part.lease / 8))
    ∷ (1, to_be_bytes w32 (mask part.prefix4))
    ∷ (3, part.gateway4.0)
    ∷ (name_servers part.dns ++ echo (look_up 82 request.options))

-- An ACK (5) to an INFORM is one without the lease (RFC 2131, section 4.3.5).
abbrev pub inform_options : CircuitPart → MessageValue → List (ℕ × List ℕ)
inform_options part request =
    (53, 5 ∷ [])
    ∷ (54, part.gateway4.0)
    ∷ (1, to_be_bytes w32 (mask part.prefix4))
    ∷ (3, part.gateway4.0)
    ∷ (name_servers part.dns ++ echo (look_up 82 request.options))

-- A NAK (6) has the server identifier alone, and the relay agent information.
abbrev pub nak_options : CircuitPart → MessageValue → List (ℕ × List ℕ)
nak_options part request =
    (53, 6 ∷ [])
    ∷ (54, part.gateway4.0)
    ∷ echo (look_up 82 request.options)

abbrev pub reply_options : CircuitPart → MessageValue → Reply4 → List (ℕ × List ℕ)
reply_options part request (Offer address) = lease_options 2 part request
reply_options part request (Ack address) = lease_options 5 part request
reply_options part request Inform = inform_options part request
reply_options part request Nak = nak_options part request

-- ---- the datagram

abbrev pub reply_message : CircuitPart → MessageValue → Reply4 → MessageValue
reply_message part request reply = record {
  header = reply_header request reply;
  options = reply_options part request reply;
}

-- The datagram: the message with its end option, zero-padded to 300 bytes (RFC 1542, section 2.1).
unfoldable pub reply4_bytes : CircuitPart → MessageValue → Reply4 → List ℕ
reply4_bytes part request reply = padded_to 300 (message_bytes (reply_message part request reply))
