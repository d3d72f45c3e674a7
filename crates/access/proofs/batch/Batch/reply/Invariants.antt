use Rattle.std.proofs.Common.{◌≡◌, ℕ, ◌≤◌, length}
use Rattle.access.specs.Batch.{AreReplied, HasTried}
use Rattle.access.specs.Taken.{all_delivered}
use Rattle.access.proofs.batch.Batch.reply.Given as goal

-- the answers so far
abbrev pub invariant-parts : goal.invariant-parts
invariant-parts l = record {
  index : l.index ≤ length l.self.taken;
  answered : l.index ≤ length l.self.answers.answers;
  same : l.history.id ≡ l.fn.history.id;
  replied : (now : ℕ) → HasTried (AreReplied (all_delivered now l.self.taken) l.self.answers.circuits l.self.answers.answers l.index) l.fn.tally l.tally l.fn.history.entries l.history.entries;
}
