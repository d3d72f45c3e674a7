-- What is left of a circuit that loses its offers. No public call of `dispatch` speaks of this.
use Rattle.std.specs.Prelude.{Option, option_map}
use Rattle.bindings_v4.specs.Slots4.{without_offers}
use Rattle.circuit_server.specs.CircuitServerValue.{OpenCircuitValue}

-- an open circuit without its offers
abbrev pub open_unoffered : OpenCircuitValue → OpenCircuitValue
open_unoffered o = record o { four = record o.four { slots = without_offers o.four.slots } }

-- a circuit, open or closed, without its offers
abbrev pub state_unoffered : Option OpenCircuitValue → Option OpenCircuitValue
state_unoffered state = option_map open_unoffered state
