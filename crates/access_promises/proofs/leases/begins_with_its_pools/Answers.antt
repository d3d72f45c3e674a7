use Rattle.std.proofs.Common.{ap, subst, ◌∙◌}
use Rattle.std.specs.Prelude.{All, slice_get}
use Rattle.circuit_server.specs.SlotsOfPools.{HasItsSlots}
use Rattle.config.specs.Topology.{Topology}
use Rattle.dispatch.specs.ServerValue.{ServerValue, circuits_in}
use Rattle.access_promises.proofs.ShownBooks.{shown_of_each}
use Rattle.access_promises.proofs.leases.begins_with_its_pools.Goals as goal

slots : (c : goal.After-has_slots_of_pools) → All HasItsSlots (circuits_in c.args.access.now.server)
slots c = subst (λ (s : ServerValue). All HasItsSlots (circuits_in s)) c.server.ensures c.has_slots_of_pools.ensures

pub returns-clause-book : goal.returns-clause-book
returns-clause-book x c part there = shown_of_each x.args.access.now.server (slots x) c part there

pub returns-clause-circuit : goal.returns-clause-circuit
returns-clause-circuit x c part new exchanges run exchanged at = record {
  run = run;
  exchanged = exchanged;
  at = at;
  begins = shown_of_each x.args.access.now.server (slots x) c part (ap (λ (t : Topology). slice_get t.circuits c) run.served ∙ at);
}
