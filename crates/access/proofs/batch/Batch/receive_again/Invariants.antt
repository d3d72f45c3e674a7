use Rattle.std.proofs.Common.{◌≡◌, ◌≤◌, length}
use Rattle.access.specs.Batch.{AreReceivedAgain, serving}
use Rattle.access.specs.Taken.{all_delivered}
use Rattle.access.proofs.batch.Batch.receive_again.Given as goal

-- those so far that are repeated
abbrev pub invariant-parts : goal.invariant-parts
invariant-parts l = record {
  index : l.index ≤ length l.self.taken;
  same : l.history.id ≡ l.fn.history.id;
  topology : l.server.topology ≡ l.fn.server.topology;
  regions : l.disk.regions ≡ l.fn.disk.regions;
  again : AreReceivedAgain (all_delivered l.now l.self.taken) l.self.answers.answers l.index
      (serving l.fn.server l.fn.disk l.fn.tally l.fn.history.entries) (serving l.server l.disk l.tally l.history.entries);
}
