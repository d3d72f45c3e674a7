use Rattle.promises.proofs.LedgerLemmas.{forgets_none}
use Rattle.promises.proofs.leases.forgets_no_lease.Goals as goal

pub returns : goal.returns
returns c setup move_fault kept two before s after byte fault p g sound book grants =
    forgets_none setup (record { four = sound.pool4; six = sound.pool6 }) setup.begins_on move_fault kept two book before s p g after byte fault grants
