use Rattle.std.proofs.Common.{rules}
use Rattle.lease_disk.proofs.format2.steps.write_of.Goals as goal

pub returns-in-Close-2-clause-bytes : goal.returns-in-Close-2-clause-bytes
returns-in-Close-2-clause-bytes c = search rules

pub returns-in-Close-clause-place : goal.returns-in-Close-clause-place
returns-in-Close-clause-place c = search rules

pub returns-in-Close-2-clause-place : goal.returns-in-Close-2-clause-place
returns-in-Close-2-clause-place c = search rules

pub returns-in-Fill-clause-place : goal.returns-in-Fill-clause-place
returns-in-Fill-clause-place c = search rules

pub returns-in-Open-clause-place : goal.returns-in-Open-clause-place
returns-in-Open-clause-place c = search rules
