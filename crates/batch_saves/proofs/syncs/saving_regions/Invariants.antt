use Rattle.std.proofs.Common.{length, ◌≤◌}
use Rattle.batch_saves.proofs.Syncing.{AreBelow}
use Rattle.batch_saves.proofs.syncs.saving_regions.Given as goal

abbrev pub invariant-parts : goal.invariant-parts
invariant-parts l = record {
  few : length l.regions.items ≤ l.part-index;
  saving : AreBelow l.parts l.part-index l.regions.items;
}
