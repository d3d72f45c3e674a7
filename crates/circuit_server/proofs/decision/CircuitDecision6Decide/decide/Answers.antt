use Rattle.std.proofs.Common.{◌≡◌, ◌≤◌, ◌<◌, map, length, subst, arith}
use Rattle.std.specs.Prelude.{IfSome}
use Rattle.std.proofs.lemmas.Grind.{common_steps}
use Rattle.slots.specs.Lookup.{live}
use Rattle.bindings_v6.specs.Kept6 as kept6
use Rattle.bindings_v6.specs.Slots6 as slots6
use Rattle.circuit_server.specs.CircuitServerValue.{OpenCircuitValue}
use Rattle.circuit_server.proofs.decision.CircuitDecision6Decide.decide.Goals as goal

pub returns-clause-fits : goal.returns-clause-fits
returns-clause-fits c =
    let d = c.decide-decision.result in
    let is = c.decide-decision.ensures in
    let Keeps : OpenCircuitValue → Type 0 = λ o.
    (kept6.kept_slots o.clock (slots6.with_decision d o.six).slots ≡ kept6.keep_in d.keep (kept6.kept_slots o.clock o.six.slots))
    × IfSome d.keep (λ kept. kept.slot < o.six.pool.count) × (o.six.pool.count ≤ 16) in
    let Others : OpenCircuitValue → Type 0 = λ o. (map (live o.clock) (slots6.with_decision d o.six).slots ≡ map (live o.clock) (slots6.with_written d o.six.slots)) × (length o.six.slots ≡ o.six.pool.count) in
    record {
      keeps = subst Keeps c.circuit.view_is (is.kept, is.slot, is.few);
      others = subst Others c.circuit.view_is (is.others, is.size);
      within = grind (arith, common_steps);
    }
