-- The circuit that a datagram names, in either protocol.
use Rattle.std.specs.Prelude.{ℕ, List, Option, Some, None, Result, Ok, Err}
use Rattle.types.specs.declared.addr.Source.{Source}
use Rattle.types.specs.declared.discard.Discard.{Discard}
use Rattle.types.specs.declared.discard.Discard.TheVariants.{UnknownCircuit}
use Rattle.config.specs.CircuitPart.{CircuitPart}
use Rattle.config.specs.Topology.{Topology, relay_circuit}

abbrev pub link_check : ℕ → Option Discard → Result ℕ Discard
link_check c None = Ok c
link_check c (Some why) = Err why

-- `link` says what is wrong with the addresses in the datagram where it is of a circuit with this part
abbrev pub circuit_check : (CircuitPart → Option Discard) → Option (ℕ × CircuitPart) → Result ℕ Discard
circuit_check link None = Err UnknownCircuit
circuit_check link (Some own) = link_check own.0 (link own.1)

-- The circuit of exactly this id among those of the relay that sends from this source.
abbrev pub named_check : Topology → Source → Option (List ℕ) → (CircuitPart → Option Discard) → Result ℕ Discard
named_check topology source id link = circuit_check link (relay_circuit topology source id)
