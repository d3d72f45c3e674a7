use Rattle.std.proofs.Common.{◌≤◌, refl, arith, sym, subst}
use Rattle.circuit_server.specs.CircuitServerValue.{IsReadyFor}
use Rattle.std.specs.Prelude.{Some}
use Rattle.circuit_server.proofs.SaveLemmas.{later_ready}
use Rattle.circuit_server.proofs.open_circuit.OpenCircuit.tick.Goals as goal

pub returns-clause-ready : goal.returns-clause-ready
returns-clause-ready c = λ region ready.
    let later : c.self.inside.clock ≤ c.later-later.result = omega (arith, c.later-later.ensures) in
    later_ready (record { clock = c.self.inside.clock; four = c.self.inside.four; six = c.self.inside.six; marks = c.self.inside.marks }) (record { clock = c.later-later.result; four = c.self.inside.four; six = c.self.inside.six; marks = c.self.inside.marks })
    region refl refl refl later c.expires_by_the_clock.ensures.kept c.expires_by_the_clock-2.ensures.kept
    (subst (λ o. IsReadyFor region (Some o)) (sym c.self.view_is) ready)
