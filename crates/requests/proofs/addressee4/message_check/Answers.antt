use Rattle.std.proofs.Common.{rules}
use Rattle.requests.proofs.addressee4.message_check.Goals as goal

pub returns-in-None-clause-check : goal.returns-in-None-clause-check
returns-in-None-clause-check c = search rules

pub returns-in-Some-link_fault-clause-check : goal.returns-in-Some-link_fault-clause-check
returns-in-Some-link_fault-clause-check c = search rules
