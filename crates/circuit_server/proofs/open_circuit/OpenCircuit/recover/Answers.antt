use Rattle.types.specs.Slots.{live4, live6, same_client4, same_client6}
use Rattle.slots.proofs.FormLemmas.{live_once}
use Rattle.circuit_server.proofs.open_circuit.OpenCircuit.recover.Goals as goal

pub new-requires-clause-once : goal.new-requires-clause-once
new-requires-clause-once g c =
    let book = c.in-Ok.ensures.book in
    live_once live4 same_client4 c.in-Ok.slots.clock c.in-Ok.slots.four book.live4 book.once4

pub new-requires-2-clause-once : goal.new-requires-2-clause-once
new-requires-2-clause-once g c =
    let book = c.in-Ok.ensures.book in
    live_once live6 same_client6 c.in-Ok.slots.clock c.in-Ok.slots.six book.live6 book.once6
