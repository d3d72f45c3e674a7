use Rattle.access_promises.proofs.BatchLeases.{saved_alone, saved_together}
use Rattle.access_promises.proofs.leases.replies_after_the_save.Goals as goal

pub returns-clause-together : goal.returns-clause-together
returns-clause-together x j c part taken answers old saved d answer p g its taken_at answered_at own there sound begins grants =
    saved_together c part old saved d p g own there sound begins j taken answers answer its taken_at answered_at grants

pub returns-clause-alone : goal.returns-clause-alone
returns-clause-alone x c part old new d p g its own there sound begins grants = saved_alone c part old new d p g own there sound begins its grants
