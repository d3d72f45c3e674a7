use Rattle.std.proofs.Common.{rules}
use Rattle.relay.proofs.up4.refusal.Goals as goal

pub returns-then-hops-ge-MAX_HOPS-clause-some : goal.returns-then-hops-ge-MAX_HOPS-clause-some
returns-then-hops-ge-MAX_HOPS-clause-some c = search rules

pub returns-then-is_from_server-clause-some : goal.returns-then-is_from_server-clause-some
returns-then-is_from_server-clause-some c = search rules

pub returns-clause-none : goal.returns-clause-none
returns-clause-none c = search rules
