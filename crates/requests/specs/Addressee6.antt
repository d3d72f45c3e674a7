-- Which circuit a DHCPv6 datagram is of, by what the relay put around the client's message (RFC 8415,
-- sections 9 and 19.1.1). The first line that fits decides.
use Rattle.std.specs.Prelude.{ℕ, Bool, false, ◌&&◌, ◌==◌, nat_le, List, [], ◌∷◌, Option, Some, None, is_some, Result, Ok, Err, if◌then◌else◌}
use Rattle.std.specs.Str.{bytes_eq}
use Rattle.types.specs.declared.addr.Source.{Source}
use Rattle.types.specs.declared.discard.Discard.{Discard}
use Rattle.types.specs.declared.discard.Discard.TheVariants.{Malformed, NotRelayed, WrongLink}
use Rattle.v6_options.specs.Codes.{RELAY_MESSAGE, INTERFACE_ID}
use Rattle.v6_options.specs.Spelling.{look_up}
use Rattle.v6_message.specs.declared.fault.RelayFault.{RelayFault}
use Rattle.v6_message.specs.Relay.{RelayValue}
use Rattle.v6_message.specs.RelayReading.{relay_of}
use Rattle.config.specs.CircuitPart.{CircuitPart}
use Rattle.config.specs.Topology.{Topology}
use Rattle.requests.specs.NamedCircuit.{named_check}

-- link-address has to be the circuit's
abbrev pub link_fault6 : RelayValue → CircuitPart → Option Discard
link_fault6 m part = if bytes_eq m.link_address part.link6 then None else Some WrongLink

-- a Relay-forward (12) around a message
abbrev pub is_forward : RelayValue → Bool
is_forward m = m.kind == 12 && is_some (look_up RELAY_MESSAGE m.options)

abbrev pub relay_check : Topology → Source → Result RelayValue RelayFault → Result ℕ Discard
relay_check topology source (Err fault) = Err Malformed
relay_check topology source (Ok m) =
    if is_forward m then named_check topology source (look_up INTERFACE_ID m.options) (link_fault6 m) else Err Malformed

-- a message of a client or a server (types 1 to 11), which has passed no relay
abbrev pub is_unrelayed : List ℕ → Bool
is_unrelayed [] = false
is_unrelayed (kind ∷ rest) = nat_le 1 kind && nat_le kind 11

abbrev pub forward_check : Topology → Source → List ℕ → Result ℕ Discard
forward_check topology source datagram = if is_unrelayed datagram then Err NotRelayed else relay_check topology source (relay_of datagram)
