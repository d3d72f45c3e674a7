use Rattle.std.proofs.Common.{◌≡◌, List, map, length, sym, ap, subst, ◌∙◌}
use Rattle.std.specs.Prelude.{All, None, Option, replicate}
use Rattle.std.proofs.lemmas.List.{length-replicate}
use Rattle.dispatch.specs.ServerValue.{HoldsDeadlines, with_states}
use Rattle.circuit_server.specs.CircuitServerValue.{HasItsPools, OpenCircuitValue}
use Rattle.circuit_server.specs.Ticked.{state_at}
use Rattle.dispatch.proofs.TickLemmas.{not_ticked}
use Rattle.dispatch.proofs.ClosedLemmas.{closed_held, closed_pools}
use Rattle.dispatch.proofs.server.Server.closed.Goals as goal

pub invariant_of-result : goal.invariant_of-result
invariant_of-result c =
    let count = c.count.result in
    let made = c.in_ok-made.ensures in
    let states = map (state_at c.first.result) c.in_ok-made.made.0.items in
    let shown : states ≡ replicate count None = ap (λ moment. map (state_at moment) c.in_ok-made.made.0.items) c.first.ensures ∙ not_ticked c.in_ok-made.made.0.items ∙ made.servers in (
      record {
        sound = c.requires.sound;
        size = ap (λ (xs : List (Option OpenCircuitValue)). length xs) shown ∙ length-replicate count _ ∙ c.count.ensures.value;
        pools = subst (λ xs. All HasItsPools (with_states c.args.circuits.circuits xs)) (sym shown) (closed_pools c.args.circuits.circuits count c.count.ensures.value);
      },
      subst (HoldsDeadlines c.in_ok-made.made.1) (sym shown) (closed_held c.in_ok-made.made.1 count made.deadlines),
      made.buffer,
    )
