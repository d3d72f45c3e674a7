use Rattle.std.proofs.Common.{◌≡◌, ◌<◌, length, slice_index_or, refl, sym, subst}
use Rattle.lease_disk.specs.Model.{region_of, stored_at}
use Rattle.lease_disk.specs.Region.{synced}
use Rattle.lease_disk.specs.declared.model_disk.Stored.{Stored}
use Rattle.lease_disk.proofs.SyncedLemmas.{synced_at}
use Rattle.lease_disk.proofs.Listed.{changed_again, changed_all, changed_none, is_there}
use Rattle.lease_disk.proofs.model_disk.clear_all.Goals as goal

pub regions-init : goal.regions-init
regions-init c = record { synced = changed_none synced c.args.regions.now (λ r. region_of (stored_at c.args.stored.now r)) }

pub bounds-stored-from : goal.bounds-stored-from
bounds-stored-from c =
    subst (λ n. c.from.result < n) (sym c.regions.auto.stored)
    (subst (λ r. r < length c.args.stored.now) (sym c.from.ensures) (c.requires (slice_index_or c.args.regions.now c.regions.index 0) (is_there c.args.regions.now c.regions.index c.regions-test.true)))

pub regions-preserved : goal.regions-preserved
regions-preserved c =
    let xs = c.args.regions.now in
    let stored = c.regions.stored in
    let one = slice_index_or stored c.from.result c.index-stored-from.result in
    let cleared : Stored = record { bytes = one.bytes; unsynced = c.clear.new.self; readable = one.readable } in
    let is_synced : region_of cleared ≡ synced (region_of one) = λ j. record { byte = (region_of one).byte; unsynced = λ i. c.clear.ensures i j; readable = one.readable } in
    let within : c.from.result < length stored = subst (λ n. c.from.result < n) (sym c.regions.auto.stored)
    (subst (λ r. r < length c.args.stored.now) (sym c.from.ensures) (c.requires (slice_index_or xs c.regions.index 0) (is_there xs c.regions.index c.regions-test.true))) in
    record {
      synced = changed_again synced xs c.regions.index c.regions-test.true (λ r. region_of (stored_at c.args.stored.now r)) (λ r. region_of (stored_at c.regions.stored r)) c.regions.invariant.synced (λ x. refl) _
          (λ q. synced_at stored c.from.result (slice_index_or xs c.regions.index 0) q cleared c.index-stored-from.result c.from.ensures within is_synced);
    }

pub returns-clause-synced : goal.returns-clause-synced
returns-clause-synced c = changed_all synced c.args.regions.now c.regions.index _ _ c.regions-test.false c.regions.invariant.synced
