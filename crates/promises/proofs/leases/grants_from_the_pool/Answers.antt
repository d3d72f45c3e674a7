use Rattle.promises.proofs.LedgerLemmas.{grants_inside}
use Rattle.promises.proofs.leases.grants_from_the_pool.Goals as goal

pub returns : goal.returns
returns c setup move_fault kept two before s p g sound book grants = grants_inside setup (record { four = sound.pool4; six = sound.pool6 }) setup.begins_on move_fault kept two book before s p g grants
