-- The slots of an open circuit.
use Rattle.std.specs.Prelude.{Some, IfSome}
use Rattle.config.specs.CircuitPart.{CircuitPart}
use Rattle.bindings_v4.specs.Slots4 as slots4
use Rattle.bindings_v6.specs.Slots6 as slots6
use Rattle.circuit_server.specs.CircuitServerValue.{CircuitServerValue, HasPools, OpenCircuitValue}

-- one for each address of its pools, and no client has two of one protocol
abbrev pub HasSlots : OpenCircuitValue → Type 0
HasSlots o = slots4.AreSlots o.four.pool o.four.slots × slots6.AreSlots o.six.pool o.six.slots

-- the slots of an open circuit are those of this part's pools
abbrev pub HasSlotsOfPools : CircuitPart → OpenCircuitValue → Type 0
HasSlotsOfPools part o = HasSlots o × HasPools part (Some o)

abbrev pub HasItsSlots : CircuitServerValue → Type 0
HasItsSlots s = IfSome s.state (HasSlotsOfPools s.part)
