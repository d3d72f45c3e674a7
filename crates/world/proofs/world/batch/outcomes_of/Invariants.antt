use Rattle.std.proofs.Common.{◌≡◌, ℕ, ◌<◌, ◌≤◌, length}
use Rattle.std.specs.Prelude.{None, Some, slice_get}
use Rattle.events.specs.declared.batch.BatchPart.{BatchPart}
use Rattle.world.specs.Batch.{outcome_for}
use Rattle.world.proofs.world.batch.outcomes_of.Given as goal

-- the outcomes of the parts so far, and none past them
abbrev pub invariant-parts : goal.invariant-parts
invariant-parts l = record {
  size : length l.outcomes ≡ 16;
  done : (i : ℕ) (part : BatchPart) → slice_get l.parts i ≡ Some part → i < l.index → slice_get l.outcomes i ≡ Some (Some (outcome_for part.circuit l.waiting l.answers.answers));
  past : (i : ℕ) → l.index ≤ i → i < 16 → slice_get l.outcomes i ≡ Some None;
}
