use Rattle.std.proofs.Common.{◌≡◌, ◌≤◌, length, take}
use Rattle.std.specs.List.{list_any}
use Rattle.timers.specs.Deadlines.{DeadlinesValue}
use Rattle.dispatch.specs.Deadlines.{AllUnchangedOrUntilHeld, KeepsDeadlines}
use Rattle.dispatch.specs.Parts.{AreAnswered, AreToSettle, is_of, place_of, savings_of}
use Rattle.dispatch.proofs.server.Server.answer_all.Given as goal

abbrev pub invariant-parts : goal.invariant-parts
invariant-parts l = record {
  items : l.part-items ≡ l.batch.parts.items;
  end : l.part-index-end ≡ length l.part-items;
  index : l.part-index ≤ l.part-index-end;
  topology : l.self.topology ≡ l.fn.self.topology;
  settles : AreToSettle l.fn.self.topology l.batch.parts.items;
  most : length l.batch.parts.items ≤ 16;
  savings : length l.batch.savings ≡ length (savings_of l.batch.parts.items);
  place : l.place ≡ place_of l.batch.parts.items l.part-index;
  deadlines : KeepsDeadlines (λ k. list_any (is_of k) (take l.part-index l.batch.parts.items)) l.fn.self.deadlines l.self.deadlines;
  held : (before : DeadlinesValue) → AllUnchangedOrUntilHeld before l.fn.self.deadlines l.fn.self.states → AllUnchangedOrUntilHeld before l.self.deadlines l.self.states;
  answered : AreAnswered l.fn.self.topology l.batch.parts.items l.batch.savings l.part-index l.fn.self.states l.self.states l.answers.answers;
  circuits : l.answers.circuits ≡ l.fn.answers.circuits;
}
