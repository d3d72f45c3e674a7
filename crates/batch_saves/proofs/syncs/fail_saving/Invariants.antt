use Rattle.std.proofs.Common.{◌≡◌, ℕ, ◌<◌, ◌≤◌, ◌==◌, if◌then◌else◌}
use Rattle.batch_saves.specs.Batch.{part_at}
use Rattle.batch_saves.proofs.syncs.fail_saving.Given as goal

abbrev pub invariant-parts : goal.invariant-parts
invariant-parts l = record {
  done : (i : ℕ) → i < l.saving-index → part_at l.parts i ≡ record (part_at l.fn.parts i) { failed = (if (part_at l.fn.parts i).failed == 0 then l.call else (part_at l.fn.parts i).failed) };
  ahead : (i : ℕ) → l.saving-index ≤ i → part_at l.parts i ≡ part_at l.fn.parts i;
}
