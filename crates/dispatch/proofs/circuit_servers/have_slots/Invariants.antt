use Rattle.std.proofs.Common.{take}
use Rattle.std.specs.Prelude.{All, IfSome}
use Rattle.circuit_server.specs.SlotsOfPools.{HasSlots}
use Rattle.dispatch.proofs.circuit_servers.have_slots.Given as goal

abbrev pub invariant-circuits : goal.invariant-circuits
invariant-circuits l = All (λ state. IfSome state HasSlots) (take l.server-index l.servers)
