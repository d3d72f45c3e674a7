use Rattle.std.proofs.Common.{◌≡◌, ◌*◌, sym, ap, subst, ◌∙◌}
use Rattle.std.specs.Prelude.{IfSome, Some, option_map}
use Rattle.timers.specs.Deadlines.{DeadlinesValue}
use Rattle.circuit_server.specs.CircuitDecision.{FitsCircuit, with_decision}
use Rattle.circuit_server.specs.CircuitServerValue.{OpenCircuitValue}
use Rattle.circuit_server.specs.Deadlines.{HasEntries, KeepsEntries, with_deadlines}
use Rattle.circuit_server.proofs.DeadlineLemmas.{decided_entries}
use Rattle.circuit_server.proofs.circuit_server.CircuitServer.apply.Goals as goal

pub returns-clause-entries : goal.returns-clause-entries
returns-clause-entries g c =
    let d = g.C.Decision.decision c.args.decision.now in
    let table = c.args.table.now in
    let circuit = c.args.circuit in
    let was : c.args.self.now ≡ Some c.in-Some.state = sym c.self.view_is ∙ c.in-Some.is in
    let fits : FitsCircuit d c.in-Some.state = subst (λ s. IfSome s (FitsCircuit d)) was c.requires.fits in
    let decided = decided_entries d table circuit c.in-Some.state fits (subst (HasEntries table circuit) was c.requires.entries) in
    subst (λ (t : DeadlinesValue). KeepsEntries circuit table t (Some c.commit.new.circuit)) (sym c.set_deadlines.ensures)
    (subst (λ (o : OpenCircuitValue). KeepsEntries circuit table (with_deadlines d (32 * circuit) table) (Some o)) (sym c.commit.ensures) decided)

pub returns-clause-applied : goal.returns-clause-applied
returns-clause-applied g c =
    let d = g.C.Decision.decision c.args.decision.now in
    ap Some c.commit.ensures ∙ ap (option_map (with_decision d)) (sym (sym c.self.view_is ∙ c.in-Some.is))
