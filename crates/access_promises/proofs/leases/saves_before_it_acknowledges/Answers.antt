use Rattle.access_promises.proofs.LeasesInRuns.{each_in, known_in, saved_in}
use Rattle.access_promises.proofs.leases.saves_before_it_acknowledges.Goals as goal

pub returns-clause-each : goal.returns-clause-each
returns-clause-each x c part old new exchanges its = each_in c part old new exchanges its

pub returns-clause-saved : goal.returns-clause-saved
returns-clause-saved x c part old new exchanges before after t p g its are grants = saved_in c part old new exchanges its p g before after t are grants

pub returns-clause-known : goal.returns-clause-known
returns-clause-known x c part old new exchanges before after t p g its are grants = known_in c part old new exchanges its p g before after t are grants
