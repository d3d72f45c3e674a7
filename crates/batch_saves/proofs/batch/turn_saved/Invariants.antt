use Rattle.std.proofs.Common.{◌≡◌, ℕ, ◌<◌, ◌≤◌}
use Rattle.batch_saves.specs.Batch.{part_at}
use Rattle.batch_saves.specs.Steps.{IsTurned}
use Rattle.batch_saves.proofs.batch.turn_saved.Given as goal

abbrev pub invariant-parts : goal.invariant-parts
invariant-parts l = record {
  done : (i : ℕ) → i < l.part-index → IsTurned (part_at l.fn.parts i) (part_at l.parts i);
  ahead : (i : ℕ) → l.part-index ≤ i → part_at l.parts i ≡ part_at l.fn.parts i;
}
