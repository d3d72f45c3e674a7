use Rattle.std.proofs.Common.{◌∙◌, ap, arith}
use Rattle.slots.proofs.FormLemmas.{kept_next}
use Rattle.bindings_v4.specs.Kept4.{slot_of}
use Rattle.bindings_v4.proofs.KeptLemmas.{form4}
use Rattle.bindings_v4.proofs.kept.kept_slots.Goals as goal

pub loop-i-preserved : goal.loop-i-preserved
loop-i-preserved c =
    kept_next form4 c.args.clock c.args.holders.now c.loop-i.i c.index-holders-i.result c.loop-i.slots c.slot_of.result (omega arith) c.requires c.index-holders-i.is
    (c.slot_of.ensures ∙ ap slot_of c.kept.ensures) c.loop-i.invariant
