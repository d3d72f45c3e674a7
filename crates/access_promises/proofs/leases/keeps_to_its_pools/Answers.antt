use Rattle.access_promises.proofs.BatchLeases.{own_alone, own_together}
use Rattle.access_promises.proofs.LeasesInRuns.{ends_with_its_book}
use Rattle.access_promises.proofs.leases.keeps_to_its_pools.Goals as goal

pub returns-clause-run : goal.returns-clause-run
returns-clause-run x c part old new exchanges its = ends_with_its_book c part old new exchanges its

pub returns-clause-together : goal.returns-clause-together
returns-clause-together x c part taken answers old saved its there sound begins = own_together c part old saved there sound begins taken answers its

pub returns-clause-alone : goal.returns-clause-alone
returns-clause-alone x c part old new d its there sound begins = own_alone c part old new there sound begins d its
