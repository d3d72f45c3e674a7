use Rattle.std.proofs.Common.{◌≡◌, drop}
use Rattle.world.specs.Batch.{outcome_for}
use Rattle.world.proofs.world.batch.outcome_for.Given as goal

-- none of the parts so far is of the circuit
abbrev pub invariant-parts : goal.invariant-parts
invariant-parts l = record {
  rest : outcome_for l.circuit (drop l.index l.waiting) (drop l.index l.answers.answers) ≡ outcome_for l.circuit l.waiting l.answers.answers;
}
