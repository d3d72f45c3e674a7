use Rattle.std.proofs.Common.{List, map, subst}
use Rattle.std.specs.Prelude.{All, Option}
use Rattle.circuit_server.specs.CircuitServerValue.{OpenCircuitValue}
use Rattle.circuit_server.specs.SlotsOfPools.{HasItsSlots}
use Rattle.circuit_server.specs.Ticked.{state_at}
use Rattle.dispatch.specs.ServerValue.{ServerValue, circuits_in}
use Rattle.dispatch.proofs.SlotLemmas.{HasSlotsIfOpen, all_slots, slots_after_tick}
use Rattle.dispatch.proofs.server.Server.has_slots_of_pools.Goals as goal

pub returns : goal.returns
returns c =
    subst (λ (s : ServerValue). All HasItsSlots (circuits_in s)) c.self.view_is
    (all_slots c.self.inside.circuits.circuits (map (state_at c.self.inside.ticked) c.self.inside.servers.items)
    (slots_after_tick c.self.inside.ticked c.self.inside.servers.items (subst (λ (xs : List (Option OpenCircuitValue)). All HasSlotsIfOpen xs) c.deref.ensures.value c.have_slots.ensures)) c.self.invariant.0.pools)
