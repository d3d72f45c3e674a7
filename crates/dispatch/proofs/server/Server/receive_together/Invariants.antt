use Rattle.std.proofs.Common.{◌≡◌, ◌≤◌, [], length, take}
use Rattle.dispatch.specs.Batch.{circuits_of, deliveries, is_named}
use Rattle.dispatch.specs.Deadlines.{AllUnchangedOrUntilHeld, KeepsDeadlines}
use Rattle.dispatch.specs.Parts.{AreDecided, savings_of}
use Rattle.dispatch.proofs.server.Server.receive_together.Given as goal

abbrev pub invariant-parts : goal.invariant-parts
invariant-parts g l = record {
  index : l.index ≤ length l.parts;
  most : length l.parts ≤ 16;
  topology : l.self.topology ≡ l.fn.self.topology;
  made : AreDecided l.fn.self.topology (deliveries l.now l.parts) l.index l.batch.named.items l.fn.self.states l.self.states l.batch.parts.items;
  deadlines : KeepsDeadlines (is_named l.fn.self.topology (take l.index (deliveries l.now l.parts))) l.fn.self.deadlines l.self.deadlines;
  held : AllUnchangedOrUntilHeld l.fn.self.deadlines l.self.deadlines l.self.states;
  savings : l.batch.savings ≡ savings_of l.batch.parts.items;
  circuits : l.answers.circuits ≡ circuits_of l.fn.self.topology (take l.index (deliveries l.now l.parts));
  none : l.answers.answers ≡ [];
}
