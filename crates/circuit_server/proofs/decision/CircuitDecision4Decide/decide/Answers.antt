use Rattle.std.proofs.Common.{◌≡◌, ◌≤◌, ◌<◌, map, length, subst, arith}
use Rattle.std.specs.Prelude.{IfSome}
use Rattle.std.proofs.lemmas.Grind.{common_steps}
use Rattle.slots.specs.Lookup.{live}
use Rattle.bindings_v4.specs.Decision4.{IsOffer, kept_slot, offer_change}
use Rattle.bindings_v4.specs.Kept4 as kept4
use Rattle.bindings_v4.specs.Slots4 as slots4
use Rattle.circuit_server.specs.CircuitServerValue.{OpenCircuitValue}
use Rattle.circuit_server.proofs.decision.CircuitDecision4Decide.decide.Goals as goal

pub returns-clause-fits : goal.returns-clause-fits
returns-clause-fits c =
    let d = c.decide-decision.result in
    let is = c.decide-decision.ensures in
    let Keeps : OpenCircuitValue → Type 0 = λ o.
    (kept4.kept_slots o.clock (slots4.with_decision d o.four).slots ≡ kept4.keep_in (kept_slot d.change) (kept4.kept_slots o.clock o.four.slots))
    × IfSome (kept_slot d.change) (λ kept. kept.slot < o.four.pool.count) × (o.four.pool.count ≤ 16) × IfSome (offer_change d.change) (IsOffer o.clock o.four.pool.count) in
    let Others : OpenCircuitValue → Type 0 = λ o. (map (live o.clock) (slots4.with_decision d o.four).slots ≡ map (live o.clock) (slots4.with_written d o.four.slots)) × (length o.four.slots ≡ o.four.pool.count) in
    record {
      keeps = subst Keeps c.circuit.view_is (is.kept, is.slot, is.few, is.offer);
      others = subst Others c.circuit.view_is (is.others, is.size);
      within = grind (arith, common_steps);
    }
