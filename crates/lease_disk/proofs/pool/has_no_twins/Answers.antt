use Rattle.std.proofs.Common.{arith, refl}
use Rattle.lease_disk.proofs.Reading.{no_twin_behind, twin_behind}
use Rattle.lease_disk.proofs.pool.has_no_twins.Goals as goal

pub loop-i-init : goal.loop-i-init
loop-i-init g c = refl

pub loop-i-preserved : goal.loop-i-preserved
loop-i-preserved g c = no_twin_behind g.S.Slot.same_client c.args.slots.now c.loop-i.i c.index-slots-i.result _ (omega arith) c.index-slots-i.is c.if-has_twin.ensures c.loop-i.invariant

pub returns-then-has_twin : goal.returns-then-has_twin
returns-then-has_twin g c = twin_behind g.S.Slot.same_client c.args.slots.now c.loop-i.i c.index-slots-i.result _ (omega arith) c.index-slots-i.is c.if-has_twin.ensures c.loop-i.invariant
