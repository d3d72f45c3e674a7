use Rattle.std.proofs.Common.{◌≡◌, ◌≤◌}
use Rattle.access.specs.Access.{HasCarried}
use Rattle.access.specs.Pass.{IsAnswerTaken}
use Rattle.access.specs.Turn.{InOrder}
use Rattle.access.proofs.access.Access.empty_relay.Given as goal

abbrev pub invariant-answers : goal.invariant-answers
invariant-answers l = record {
  taken : l.taken ≤ 32;
  same : l.self.topology ≡ l.fn.self.topology;
  port : l.self.port ≡ l.fn.self.port;
  so_far : HasCarried (InOrder (λ i. IsAnswerTaken l.fn.self.topology l.fn.self.port l.fn.index) l.taken) l.taken l.fn.self l.self;
}
