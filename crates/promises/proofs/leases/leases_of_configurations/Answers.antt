use Rattle.std.proofs.Common.{sym, subst}
use Rattle.circuit_server.specs.Leases.{recovered_book}
use Rattle.lease_disk.specs.Layout.{is_format2}
use Rattle.world.proofs.SetupLemmas.{its_part}
use Rattle.promises.specs.Books.{IsInPool}
use Rattle.promises.proofs.ConfigLemmas.{limits_of, pools_apart}
use Rattle.promises.proofs.LedgerLemmas.{forgets_none, grants_inside, leases_once}
use Rattle.promises.proofs.PoolLemmas.{opened_of}
use Rattle.promises.proofs.leases.leases_of_configurations.Goals as goal

pub returns-clause-once : goal.returns-clause-once
returns-clause-once x texts plans quota c setup opening before s between t p g h config there grants again same apart =
    let limits = limits_of plans.union config.2.sound c setup.part (its_part plans quota c setup there) in
    leases_once setup limits setup.begins_on opening.move_fault (recovered_book setup.part opening.byte) (is_format2 opening.byte) (opened_of setup.part opening.byte) before s p g between t h grants again same apart

pub returns-clause-known : goal.returns-clause-known
returns-clause-known x texts plans quota c setup opening before s after byte fault p g config there grants =
    let limits = limits_of plans.union config.2.sound c setup.part (its_part plans quota c setup there) in
    forgets_none setup limits setup.begins_on opening.move_fault (recovered_book setup.part opening.byte) (is_format2 opening.byte) (opened_of setup.part opening.byte) before s p g after byte fault grants

pub returns-clause-pool : goal.returns-clause-pool
returns-clause-pool x texts plans quota c setup opening before s p g config there grants =
    let limits = limits_of plans.union config.2.sound c setup.part (its_part plans quota c setup there) in
    grants_inside setup limits setup.begins_on opening.move_fault (recovered_book setup.part opening.byte) (is_format2 opening.byte) (opened_of setup.part opening.byte) before s p g grants

pub returns-clause-apart : goal.returns-clause-apart
returns-clause-apart x texts plans quota other_quota c d setup other opening other_opening before s beside t p g h config here there differ grants again same =
    let mine = its_part plans quota c setup here in
    let yours = its_part plans other_quota d other there in
    let one =
    grants_inside setup (limits_of plans.union config.2.sound c setup.part mine) setup.begins_on opening.move_fault (recovered_book setup.part opening.byte) (is_format2 opening.byte) (opened_of setup.part opening.byte) before s p g grants in
    let two =
    grants_inside other (limits_of plans.union config.2.sound d other.part yours) other.begins_on other_opening.move_fault (recovered_book other.part other_opening.byte) (is_format2 other_opening.byte) (opened_of other.part other_opening.byte) beside t p h again in
    pools_apart plans.union config.2.sound p c d setup.part other.part mine yours differ g.address one (subst (IsInPool other.part p) (sym same) two)
