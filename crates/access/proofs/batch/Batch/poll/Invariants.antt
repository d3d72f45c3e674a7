use Rattle.std.proofs.Common.{◌≡◌, ◌≤◌, ◌+◌, length}
use Rattle.access.proofs.PollingLemmas.{HasPolled}
use Rattle.access.proofs.PollingLemmas.{tries_left}
use Rattle.access.proofs.batch.Batch.poll.Given as goal

-- the sockets so far
abbrev pub invariant-sockets : goal.invariant-sockets
invariant-sockets l = record {
  same : l.history.id ≡ l.fn.history.id;
  most : l.self.most ≡ l.fn.self.most;
  first : l.self.first ≡ l.fn.self.first;
  room : length l.self.taken + l.polling.left ≤ l.fn.self.most;
  polled : HasPolled l.fn.self.most l.fn.self.first l.polling l.self.taken l.fn.history.entries l.history.entries;
}

abbrev pub decreases-sockets : goal.decreases-sockets
decreases-sockets l = tries_left l.polling
