-- Which circuit a DHCPv4 datagram is of, by what the relay put into it (RFC 3046, section 2.2; RFC 5107,
-- section 4). The first line that fits decides.
use Rattle.std.specs.Prelude.{ℕ, not, ◌==◌, List, Option, Some, None, Result, Ok, Err, if◌then◌else◌}
use Rattle.std.specs.Str.{bytes_eq}
use Rattle.types.specs.Addr.{is_unspecified}
use Rattle.types.specs.declared.addr.Source.{Source}
use Rattle.types.specs.declared.discard.Discard.{Discard}
use Rattle.types.specs.declared.discard.Discard.TheVariants.{Malformed, NotRelayed, WrongLink, NoOverride}
use Rattle.v4_options.specs.Codes.{CIRCUIT_ID, SERVER_IDENTIFIER_OVERRIDE}
use Rattle.v4_options.specs.declared.fault.SuboptFault.{SuboptFault}
use Rattle.v4_options.specs.Spelling.{look_up}
use Rattle.v4_message.specs.declared.fault.MessageFault.{MessageFault}
use Rattle.v4_message.specs.Agent.{agent_of, is_value}
use Rattle.v4_message.specs.Spelling.{MessageValue}
use Rattle.config.specs.CircuitPart.{CircuitPart}
use Rattle.config.specs.Topology.{Topology}
use Rattle.requests.specs.NamedCircuit.{named_check}

-- the message has to bear the circuit's gateway twice
abbrev pub link_fault4 : MessageValue → List (ℕ × List ℕ) → CircuitPart → Option Discard
link_fault4 m suboptions part =
    if not (bytes_eq m.header.giaddr part.gateway4.0) then Some WrongLink
    else if not (is_value part.gateway4.0 (look_up SERVER_IDENTIFIER_OVERRIDE suboptions)) then Some NoOverride
    else None

-- by what option 82 holds
abbrev pub agent_check : Topology → Source → MessageValue → Option (Result (List (ℕ × List ℕ)) SuboptFault) → Result ℕ Discard
agent_check topology source m None = Err NotRelayed
agent_check topology source m (Some (Err fault)) = Err Malformed
agent_check topology source m (Some (Ok suboptions)) = named_check topology source (look_up CIRCUIT_ID suboptions) (link_fault4 m suboptions)

abbrev pub message_check : Topology → Source → Result MessageValue MessageFault → Result ℕ Discard
message_check topology source (Err fault) = Err Malformed
message_check topology source (Ok m) =
    if not (m.header.op == 1) then Err Malformed
    else if is_unspecified m.header.giaddr then Err NotRelayed
    else agent_check topology source m (agent_of m)
