use Rattle.std.proofs.Common.{length, ap, ◌∙◌, arith, rules}
use Rattle.lease_disk.proofs.Moved.{none_yet, first_more, all_first}
use Rattle.lease_disk.proofs.migrating.write_halves.Goals as goal

pub loop-slot-init : goal.loop-slot-init
loop-slot-init c = none_yet c.args.slots.now _ c.overwrite.new.bytes (search rules) c.overwrite.ensures

pub loop-slot-preserved : goal.loop-slot-preserved
loop-slot-preserved c =
    first_more c.args.slots.now c.loop-slot.slot c.as_slice.result.now (c.as_slice.ensures.value ∙ search rules) (ap length c.as_slice.ensures.value ∙ c.write_half-half.ensures.size) _ _ (search rules) c.write_half-half.ensures.clock c.loop-slot.invariant (search rules) c.put.ensures

pub returns-clause-bytes : goal.returns-clause-bytes
returns-clause-bytes c = all_first c.args.slots.now c.loop-slot.slot c.loop-slot.halves (omega (arith, c.loop-slot-test.false)) c.loop-slot.invariant

pub returns-clause-clock : goal.returns-clause-clock
returns-clause-clock c = c.loop-slot.invariant.small (omega (arith, c.loop-slot-test.false))
