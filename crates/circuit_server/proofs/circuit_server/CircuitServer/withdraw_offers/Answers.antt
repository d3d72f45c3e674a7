use Rattle.std.proofs.Common.{◌≡◌, sym, ap, subst, ◌∙◌}
use Rattle.std.specs.Prelude.{Option, Some}
use Rattle.bindings_v4.specs.Slots4.{PoolSlots}
use Rattle.circuit_server.specs.CircuitServerValue.{OpenCircuitValue}
use Rattle.circuit_server.specs.declared.circuit_server.CircuitServer.TheInside.{Inside}
use Rattle.circuit_server.specs.Unoffered.{open_unoffered, state_unoffered}
use Rattle.circuit_server.proofs.circuit_server.CircuitServer.withdraw_offers.Goals as goal
use Rattle.circuit_server.proofs.circuit_server.CircuitServer.withdraw_offers.Goals.{in-Some, in_default}

pub returns : goal.returns
returns c =
    let P : Inside → Type 0 = λ inside. inside.state ≡ state_unoffered c.args.self.now in
    elim c.match-self.branch [
      | in-Some w ↦
          let with_four : PoolSlots → Option OpenCircuitValue = λ four. Some (record { clock = w.circuit.inside.clock; four = four; six = w.circuit.inside.six; marks = w.circuit.inside.marks }) in
          let left = ap with_four w.withdraw_offers.ensures.slots ∙ ap (λ (o : OpenCircuitValue). Some (open_unoffered o)) w.circuit.view_is in
          subst P (sym w.self-inside-is) (left ∙ ap state_unoffered (sym (sym c.self.view_is ∙ w.in-Some.is)))
      | in_default w ↦ subst P (sym w.self-inside-is) (w.in_default.is ∙ ap state_unoffered (sym (sym c.self.view_is ∙ w.in_default.is)))
    ]
