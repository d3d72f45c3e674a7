-- The bytes of the server's DHCPv6 replies (RFC 8415, sections 18.3 and 19.3).
use Rattle.std.specs.Prelude.{◌≡◌, ℕ, ◌+◌, ◌*◌, ◌/◌, ◌≤◌, nat_le, List, [], ◌∷◌, ◌++◌, length, map, All, Option, Result, Ok, Err, if◌then◌else◌}
use Rattle.std.specs.Int.{w16, to_be_bytes}
use Rattle.std.specs.Option.{option_map_or}
use Rattle.types.specs.Key6.{Key6Value}
use Rattle.exchange.specs.Reply6.{code_of_reply6, code_of_status6}
use Rattle.types.specs.declared.addr.Addr6.{Addr6}
use Rattle.exchange.specs.declared.request6.Reply6.{Reply6}
use Rattle.exchange.specs.declared.request6.ReplyIa.{ReplyIa}
use Rattle.exchange.specs.declared.request6.ReplyIa.TheVariants as variants
use Rattle.exchange.specs.declared.request6.Status6.{Status6}
use Rattle.v6_options.specs.Codes.{CLIENT_ID, SERVER_ID, IA_NA, IA_ADDRESS, RELAY_MESSAGE, STATUS_CODE, INTERFACE_ID}
use Rattle.v6_message.specs.declared.fault.MessageFault.{MessageFault}
use Rattle.v6_message.specs.declared.fault.MessageFault.TheVariants.{IaCount, AddrCount}
use Rattle.v6_message.specs.Ia.{address_bytes, ia_bytes}
use Rattle.v6_message.specs.Message.{MessageValue, message_bytes}
use Rattle.v6_message.specs.Relay.{RelayValue, relay_bytes}
use Rattle.config.specs.CircuitPart.{CircuitPart}

-- ---- the options, in the order sent

-- a status without a text (section 21.13)
abbrev pub status_option : Status6 → ℕ × List ℕ
status_option status = (STATUS_CODE, to_be_bytes w16 (code_of_status6 status))

-- the status of the whole message, left out where there is none
abbrev pub status_options : Option Status6 → List (ℕ × List ℕ)
status_options status = option_map_or (λ told. status_option told ∷ []) status []

-- an address, both of whose lifetimes are so many seconds (section 21.6)
abbrev pub address_option : ℕ → Addr6 → ℕ × List ℕ
address_option lifetime address = (IA_ADDRESS, address_bytes (record { address = address.0; preferred_lifetime = lifetime; valid_lifetime = lifetime }))

-- an IA_NA (section 21.4) with a status and no address
abbrev pub ia_with_status : ℕ → Status6 → ℕ × List ℕ
ia_with_status iaid status = (IA_NA, ia_bytes (record { iaid = iaid; t1 = 0; t2 = 0; options = status_option status ∷ [] }))

-- an IA_NA with the zeroed addresses and then the leased one
abbrev pub ia_with_addresses : ℕ → ℕ → List Addr6 → Addr6 → ℕ × List ℕ
ia_with_addresses lease iaid zeroed leased =
    (IA_NA, ia_bytes (record { iaid = iaid; t1 = lease / 2; t2 = 4 * lease / 5; options = map (address_option 0) zeroed ++ address_option lease leased ∷ [] }))

-- left out where there is none
abbrev pub ia_options : ℕ → ℕ → ReplyIa → List (ℕ × List ℕ)
ia_options lease iaid variants.None = []
ia_options lease iaid (variants.Status status) = ia_with_status iaid status ∷ []
ia_options lease iaid (variants.Given zeroed leased) = ia_with_addresses lease iaid zeroed.items leased ∷ []

-- client id, server id, status, IA_NA
abbrev pub reply_options : CircuitPart → Key6Value → Reply6 → List (ℕ × List ℕ)
reply_options part client reply =
    (CLIENT_ID, client.duid) ∷ (SERVER_ID, part.duid) ∷ (status_options reply.status ++ ia_options part.lease client.iaid reply.ia)

-- ---- the datagram

-- the reply to a client's message
abbrev pub reply_message : CircuitPart → MessageValue → Key6Value → Reply6 → MessageValue
reply_message part message client reply = record {
  kind = code_of_reply6 reply.kind;
  transaction_id = message.transaction_id;
  options = reply_options part client reply;
}

-- the Relay-reply (13) around it: the fields of the Relay-forward, the circuit id that it bears, and the
-- reply (section 19.3)
abbrev pub relay_reply : CircuitPart → RelayValue → MessageValue → Key6Value → Reply6 → RelayValue
relay_reply part request message client reply = record request {
  kind = 13;
  options = (INTERFACE_ID, part.id) ∷ (RELAY_MESSAGE, message_bytes (reply_message part message client reply)) ∷ [];
}

unfoldable pub reply6_bytes : CircuitPart → RelayValue → MessageValue → Key6Value → Reply6 → List ℕ
reply6_bytes part request message client reply = relay_bytes (relay_reply part request message client reply)

-- ---- reading it back

-- an IA_NA within the limits of its type: at most 4 zeroed addresses, and all addresses of 16 bytes
abbrev pub IsReplyIa : ReplyIa → Type 0
IsReplyIa variants.None = Unit {0}
IsReplyIa (variants.Status status) = Unit {0}
IsReplyIa (variants.Given zeroed leased) = (length zeroed.items ≤ 4) × All (λ (a : Addr6). length a.0 ≡ 16) zeroed.items × (length leased.0 ≡ 16)

-- a reply to this message of this client, each within the limits of its type
pub record IsReplyTo (message : MessageValue) (client : Key6Value) (reply : Reply6) : Type 0 where
  pub id : length message.transaction_id ≡ 3
  pub duid : length client.duid ≤ 130
  pub ia : IsReplyIa reply.ia

-- What reading makes of a reply, by its IA_NA: the limits for reading ask for one, with at most 4 addresses.
abbrev pub read_within : ReplyIa → MessageValue → Result MessageValue MessageFault
read_within variants.None m = Err IaCount
read_within (variants.Status status) m = Ok m
read_within (variants.Given zeroed leased) m = if nat_le (1 + length zeroed.items) 4 then Ok m else Err AddrCount
