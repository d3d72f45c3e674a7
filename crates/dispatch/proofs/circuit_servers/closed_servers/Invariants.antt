use Rattle.std.proofs.Common.{◌≡◌, replicate}
use Rattle.std.specs.Prelude.{None}
use Rattle.dispatch.proofs.circuit_servers.closed_servers.Given as goal

abbrev pub invariant-servers : goal.invariant-servers
invariant-servers l = l.servers.items ≡ replicate l.counter None
