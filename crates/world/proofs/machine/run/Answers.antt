use Rattle.std.proofs.Common.{[], refl, ap, subst, ◌∙◌, rules}
use Rattle.config.specs.Topology.{Topology}
use Rattle.dispatch.specs.Regions.{KeepsOthers}
use Rattle.world.proofs.Runs.{turned_reaches, reaches_nothing, emits_nothing, reaches_next, emits_next, emits_at}
use Rattle.world.proofs.ServedLemmas.{spares_stay, spares_then}
use Rattle.world.proofs.CircuitSteps.{circuits_after}
use Rattle.world.proofs.machine.run.Goals as goal

pub events-init : goal.events-init
events-init g c =
    let start = g.M.Machine.states c.args.machine.now in
    let device = g.M.Machine.device c.args.machine.now in
    record {
      emits = emits_nothing start (g.S.Sink.taken c.args.sink.now);
      circuits = refl;
      others = spares_stay (g.M.Machine.topology c.args.machine.now).circuits device device refl;
      turned = reaches_nothing start;
      reaches = turned_reaches [] start start (reaches_nothing start);
      quiet = refl;
    }

pub returns-then-not-taken-clause-reaches_past : goal.returns-then-not-taken-clause-reaches_past
returns-then-not-taken-clause-reaches_past g c =
    turned_reaches _ _ _ (reaches_next c.args.events.now c.events.n c.index-events-n.result c.events-test.true c.index-events-n.is _ _ _ _ _ c.events.invariant.turned c.step-outcome.ensures.steps)

pub returns-then-not-taken-clause-emits_at : goal.returns-then-not-taken-clause-emits_at
returns-then-not-taken-clause-emits_at g c =
    emits_at c.args.events.now c.events.n c.index-events-n.result c.events-test.true c.index-events-n.is _ _ _ _ _ c.events.invariant.turned c.step-outcome.ensures.steps
    (c.deliver-taken.ensures.one c.if-not-taken.true)

pub events-preserved : goal.events-preserved
events-preserved g c = let turned = reaches_next c.args.events.now c.events.n c.index-events-n.result c.events-test.true c.index-events-n.is _ _ _ _ _ c.events.invariant.turned c.step-outcome.ensures.steps in record {
  emits =
      emits_next c.args.events.now c.events.n c.index-events-n.result c.events-test.true c.index-events-n.is _ _ _ _ _ _ _ _
      c.events.invariant.emits c.events.invariant.turned c.step-outcome.ensures.steps (c.deliver-taken.ensures.yes c.if-not-taken.false);
  circuits = ap (λ (t : Topology). t.circuits) c.step-outcome.ensures.topology ∙ circuits_after c.index-events-n.result (g.M.Machine.topology c.events.machine) ∙ c.events.invariant.circuits;
  others =
      spares_then (g.M.Machine.topology c.args.machine.now).circuits (g.M.Machine.device c.args.machine.now) (g.M.Machine.device c.events.machine) (g.M.Machine.device c.step-outcome.new.self)
      c.events.invariant.others
      (subst (λ parts. KeepsOthers parts (g.M.Machine.device c.events.machine) (g.M.Machine.device c.step-outcome.new.self)) c.events.invariant.circuits c.step-outcome.ensures.others);
  turned = turned;
  reaches = turned_reaches _ _ _ turned;
  quiet = c.deliver-taken.ensures.quiet c.if-not-taken.false ∙ c.events.invariant.quiet;
}

pub returns-then-not-taken-clause-frames_before : goal.returns-then-not-taken-clause-frames_before
returns-then-not-taken-clause-frames_before c = search rules

pub returns-then-not-taken-clause-refused : goal.returns-then-not-taken-clause-refused
returns-then-not-taken-clause-refused c = search rules
