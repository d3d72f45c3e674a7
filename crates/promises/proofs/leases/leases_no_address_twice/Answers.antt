use Rattle.promises.proofs.LedgerLemmas.{leases_once}
use Rattle.promises.proofs.leases.leases_no_address_twice.Goals as goal

pub returns : goal.returns
returns c setup move_fault kept two before s between t p g h sound book grants again same apart =
    leases_once setup (record { four = sound.pool4; six = sound.pool6 }) setup.begins_on move_fault kept two book before s p g between t h grants again same apart
